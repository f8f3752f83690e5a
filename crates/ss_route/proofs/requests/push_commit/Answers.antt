use Rattle.std.proofs.Common.{◌++◌, codes, ap, ◌∙◌, append_assoc}
use Rattle.std.specs.Prelude.{string_bytes}
use Rattle.ss_route.specs.Posts.{token}
use Rattle.ss_route.proofs.requests.push_commit.Goals as goal

pub returns : goal.returns
returns c =
    c.in_ok-push_str.ensures.bytes ∙ ap (λ text. text ++ codes "&commit=true") c.in_ok-push_batch.ensures
    ∙ append_assoc (string_bytes c.args.target.now) (codes "?batch=" ++ token c.args.batch) (codes "&commit=true")
