use Rattle.std.proofs.Common.{sym, subst}
use Rattle.std.specs.List.{AllByRecursion}
use Rattle.ss_route.specs.Sending.{HasTypes}
use Rattle.ss_promises.specs.Values.{IsTypedPart}
use Rattle.ss_promises.proofs.Typed.{all_from}
use Rattle.ss_promises.proofs.values.requests_are_typed.Goals as goal

pub returns-in-Post : goal.returns-in-Post
returns-in-Post c = subst HasTypes (sym c.in-Post.is) (
  all_from IsTypedPart c.in-Post.records.parts (subst (AllByRecursion IsTypedPart) c.as_slice.ensures c.parts_are_typed.ensures),
  c.condition_is_typed-in-Post.ensures,
)
