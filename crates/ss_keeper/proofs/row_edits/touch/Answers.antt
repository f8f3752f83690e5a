use Rattle.std.proofs.Common.{◌∙◌, ◌||◌}
use Rattle.ss_bso.specs.Account.{is_at}
use Rattle.ss_keeper.specs.Together.{is_held}
use Rattle.ss_keeper.proofs.Sets.{place-put}
use Rattle.ss_keeper.proofs.row_edits.touch.Goals as goal

pub returns : goal.returns
returns c = λ row.
    let old = c.args.touched.now in
    place-put row c.place_of.result old.keys c.insert.new.self.keys c.in_ok-_added._added c.in_ok-_added.ensures.added c.in_ok-_added.ensures.keys
    ∙ (λ i. is_at (c.place_of.ensures.collection i) (c.place_of.ensures.id i) row || is_held old row)
