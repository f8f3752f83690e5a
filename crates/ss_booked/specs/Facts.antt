-- That a journal is legal, and that each of its entries had room, are facts, of which there is at most one proof.
use Rattle.std.specs.Prelude.{◌≡◌, List, []}
use Rattle.std.proofs.Common.{subst}
use Rattle.std.specs.Option.{IsSomeAnd-prop}
use Rattle.std.proofs.Props.{props}
use Rattle.ss_query.specs.declared.requests.Request.{Request}
use Rattle.ss_query.specs.declared.requests.Request.TheVariants.{Info, DeleteAll, List as ListOf, Post}
use Rattle.ss_query.specs.declared.requests.Request.TheVariants.{DeleteCollection, DeleteIds, Get, Put, Delete}
use Rattle.ss_query.specs.Fit.{IsFitRequest}
use Rattle.ss_laws.specs.declared.journal.Entry.{Entry}
use Rattle.ss_laws.specs.Journal.{Journal}
use Rattle.ss_laws.specs.Journals.{IsLegal}
use Rattle.ss_booked.specs.Sizes.{HadRoom}

fit_prop : (request : Request) → IsProp (IsFitRequest request)
fit_prop (Post collection records mode cond) = Prim.hlevel props
fit_prop (ListOf collection query cond) = Prim.hlevel props
fit_prop (DeleteIds collection ids cond) = Prim.hlevel props
fit_prop (Info what cond) = Prim.hlevel props
fit_prop (DeleteAll cond) = Prim.hlevel props
fit_prop (DeleteCollection collection cond) = Prim.hlevel props
fit_prop (Get collection id cond) = Prim.hlevel props
fit_prop (Put collection id fields cond) = Prim.hlevel props
fit_prop (Delete collection id cond) = Prim.hlevel props

pub legal_prop : (journal : Journal) → IsProp (IsLegal journal)
legal_prop journal = Prim.hlevel (fit_prop, props)

-- that each of its entries had room is one too
pub room_prop : (journal : Journal) → IsProp (HadRoom journal)
room_prop journal = Prim.hlevel props
