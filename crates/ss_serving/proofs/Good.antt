-- A valid account is good for those batches that begin from now on.
use Rattle.std.specs.Prelude.{◌≤◌, length}
use Rattle.std.proofs.Common.{arith}
use Rattle.ss_bso.specs.declared.account.Plain.{Plain}
use Rattle.ss_bso.specs.Lists.{Each, Apart}
use Rattle.ss_bso.specs.Validity.{IsValid, IsValidBatch}
use Rattle.ss_bso.proofs.Full.{within-number}
use Rattle.ss_bso.proofs.Lists.{Each-imp, Each-from_All, Pairs-from_AllPairs}
use Rattle.ss_query.specs.Refused.{collection_time}
use Rattle.ss_serving.specs.Bookmarks.{bookmarks}
use Rattle.ss_serving.specs.Good.{Lasts, OtherNumber, IsGoodBatch, IsGood}

pub good_from : (account : Plain) → IsValid account → Each Lasts account.rows → collection_time account bookmarks ≤ account.store → IsGood account.counter account
good_from account v lasting below = record {
  places = Pairs-from_AllPairs Apart account.rows v.places;
  number = omega (arith, within-number account.rows (length account.collections) v.limits.within);
  lasting = lasting;
  below = below;
  since = omega arith;
  numbers = Pairs-from_AllPairs OtherNumber account.batches v.numbers;
  batches = Each-imp (IsValidBatch account) (IsGoodBatch account.counter account.counter) (λ batch h. record { counted = h.counted; plain = λ late. let le : batch.number ≤ account.counter = h.counted in absurd (omega arith) }) account.batches
      (Each-from_All (IsValidBatch account) account.batches v.batches);
}
