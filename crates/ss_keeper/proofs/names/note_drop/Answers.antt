use Rattle.std.proofs.Common.{sym, ap, ◌∙◌, ◌||◌}
use Rattle.ss_bso.specs.Changes.{drops}
use Rattle.ss_keeper.specs.Together.{is_named}
use Rattle.ss_keeper.proofs.Sets.{name-put}
use Rattle.ss_keeper.proofs.names.note_drop.Goals as goal
use Rattle.ss_text.proofs.Basics.{bytes_eq-sym}

pub returns-in_ok-_added : goal.returns-in_ok-_added
returns-in_ok-_added c = λ name.
    let old = c.args.names.now in
    name-put name _ old.keys c.insert.new.self.keys c.in_ok-_added._added c.in_ok-_added.ensures.added c.in_ok-_added.ensures.keys
    ∙ ap (λ b. b || is_named old name) (bytes_eq-sym name c.in-Drop.name ∙ ap (drops name) (sym c.in-Drop.is))
