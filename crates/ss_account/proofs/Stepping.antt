-- What the parts of a step come to.
use Rattle.std.specs.Prelude.{◌≡◌, ℕ, ◌≤◌, ◌+◌, Bool, true, false, cond, List, [], ◌∷◌, ◌&&◌, nat_le, length, filter}
use Rattle.std.specs.Prelude.{map, not, bytes_eq, is_none, Option, Some, None, option_map, Result, IfOk, refl}
use Rattle.std.proofs.Common.{sym, ap, subst, ◌∙◌, arith}
use Rattle.ss_text.specs.Time.{last_stamp}
use Rattle.ss_text.specs.declared.stamps.Cond.TheVariants.{Free}
use Rattle.ss_bso.specs.declared.rows.Row.{Row}
use Rattle.ss_bso.specs.declared.account.Plain.{Plain}
use Rattle.ss_query.specs.declared.requests.Request.{Request}
use Rattle.ss_query.specs.declared.requests.Request.TheVariants.{Info, DeleteAll, List as ListOf, Post}
use Rattle.ss_query.specs.declared.requests.Request.TheVariants.{DeleteCollection, DeleteIds, Get, Put, Delete}
use Rattle.ss_query.specs.declared.requests.Mode.TheVariants.{Plain as PlainPost, Begin, Append, Commit}
use Rattle.ss_query.specs.declared.replies.Mark.TheVariants.{Done}
use Rattle.ss_query.specs.Marks.{mark_of}
use Rattle.ss_bso.specs.Write.{is_among, rows_without}
use Rattle.ss_bso.specs.Limits.{most_account_payload_bytes, most_rows_and_collections, rows_of, row_bytes}
use Rattle.ss_bso.proofs.Full.{within-both, within-bytes, within-number}
use Rattle.ss_bso.specs.Validity.{IsWithinLimits, SameAccount}
use Rattle.ss_bso.proofs.Reordering.{same-self}
use Rattle.ss_query.specs.Refused.{Refusal, NoItem, NotModified, WasModified, NoMoreBatches, NoBatch, BatchFull}
use Rattle.ss_query.specs.Refused.{ClockEnded, AccountFull, target_time}
use Rattle.ss_query.specs.Effect.{effect, is_over, is_write, stamp_in}
use Rattle.ss_query.specs.Told.{body_of, by_name, count_of, next_of, ok_status, per_collection}
use Rattle.ss_query.specs.declared.replies.Body.{Body}
use Rattle.ss_query.specs.Api.{first_some, outcome, time_told, where_so}
use Rattle.ss_account.specs.declared.infos.Measure.{Measure}
use Rattle.ss_account.specs.declared.infos.Measure.TheVariants.{Records, Bytes}
use Rattle.ss_writes.specs.declared.pending.Pending.{Pending}
use Rattle.ss_writes.specs.Pending.{Settles, Tells, account_after_pending}
use Rattle.ss_index.specs.Numbers.{capped_number}
use Rattle.ss_account.specs.Steps.{counted_rows, late_refusal, number_of, plain_reply}
use Rattle.ss_bso.proofs.Lists.{sum_by-filter_le}
use Rattle.ss_laws.proofs.CommitLaw.{over_test}
use Rattle.ss_text.proofs.Basics.{length-filter_le}

-- a write that is ready, with what is told of it
pub tells-from : (account after : Plain) (time : ℕ) (body : Body) (found : Option Pending) → Settles account time after found → Tells account time after body (option_map (λ pending. (pending, body)) found)
tells-from account after time body None s = s
tells-from account after time body (Some pending) s = (s.0, s.1, s.2, refl)

pub told-as : {E : Type 0} (account after other : Plain) (time : ℕ) (body told : Body) (result : Result (Option (Pending × Body)) E) → IfOk result (λ found. Tells account time after body found) → after ≡ other → body ≡ told
    → IfOk result (λ found. Tells account time other told found)
told-as account after other time body told result t same e =
    subst (λ (a : Plain). IfOk result (λ found. Tells account time a told found)) same (subst (λ (b : Body). IfOk result (λ found. Tells account time after b found)) e t)

-- a write is told with 200, and no list
record IsTold (account : Plain) (request : Request) : Type 0 where
  status : ok_status request ≡ 200
  count : count_of account request ≡ None
  next : next_of account request ≡ None

write-told : (account : Plain) (request : Request) → is_write account request ≡ true → IsTold account request
write-told account (Info what condition) e = cc
write-told account (DeleteAll condition) e = record { status = refl; count = refl; next = refl }
write-told account (ListOf collection query condition) e = cc
write-told account (Post collection records PlainPost condition) e = record { status = refl; count = refl; next = refl }
write-told account (Post collection records Begin condition) e = cc
write-told account (Post collection records (Append number) condition) e = cc
write-told account (Post collection records (Commit number) condition) e = record { status = refl; count = refl; next = refl }
write-told account (DeleteCollection collection condition) e = record { status = refl; count = refl; next = refl }
write-told account (DeleteIds collection ids condition) e = record { status = refl; count = refl; next = refl }
write-told account (Get collection id condition) e = cc
write-told account (Put collection id fields condition) e = record { status = refl; count = refl; next = refl }
write-told account (Delete collection id condition) e = record { status = refl; count = refl; next = refl }

-- a write that is ready isn't refused, and this is its reply
pub written-reply : (account : Plain) (request : Request) (time : ℕ) (pending : Pending) (body : Body) → is_write account request ≡ true → nat_le last_stamp account.store ≡ false → time ≡ stamp_in account
    → Tells account time (effect account request) (body_of account request (stamp_in account)) (Some (pending, body))
    → plain_reply time 200 (Some time) body ≡ (outcome account request (late_refusal account request)).reply
written-reply account request time pending body writes clock is t =
    let told = write-told account request writes in
    let none : late_refusal account request ≡ None = λ i. first_some (where_so (writes i && clock i) ClockEnded ∷ where_so (writes i && t.0 i) AccountFull ∷ []) in
    let shown : time_told account request ≡ time = (λ i. cond (writes i) (stamp_in account) (target_time account request)) ∙ sym is in
    let moved : (effect account request).moment ≡ time = ap (λ (a : Plain). a.moment) (sym t.1) in
    let says : body_of account request (time_told account request) ≡ body = ap (body_of account request) (shown ∙ is) ∙ sym t.3 in
    sym (ap (λ why. (outcome account request why).reply) none
    ∙ (λ i. record { status = told.status i; moment = moved i; modified = Some (shown i); count = told.count i; next = told.next i; body = says i }))

-- and the account that it leaves
pub written-account : (account : Plain) (request : Request) (time : ℕ) (pending : Pending) (body : Body) → is_write account request ≡ true → nat_le last_stamp account.store ≡ false
    → Tells account time (effect account request) (body_of account request (stamp_in account)) (Some (pending, body))
    → (outcome account request (late_refusal account request)).account ≡ account_after_pending account time pending
written-account account request time pending body writes clock t =
    let none : late_refusal account request ≡ None = λ i. first_some (where_so (writes i && clock i) ClockEnded ∷ where_so (writes i && t.0 i) AccountFull ∷ []) in
    ap (λ why. (outcome account request why).account) none ∙ sym t.1

-- a request that is refused leaves the account
pub refused-account : (account : Plain) (request : Request) (why : Option Refusal) → is_none why ≡ false → SameAccount (outcome account request why).account account
refused-account account request None e = cc
refused-account account request (Some why) e = same-self account

-- a write is refused at the clock's end, and past the limits; what is no write isn't refused so
pub late-clock : (account : Plain) (request : Request) → is_write account request ≡ true → nat_le last_stamp account.store ≡ true → is_none (late_refusal account request) ≡ false
late-clock account request writes clock = λ i. is_none (first_some (where_so (writes i && clock i) ClockEnded ∷ where_so (is_write account request && is_over (effect account request)) AccountFull ∷ []))

pub late-full : (account : Plain) (request : Request) → is_write account request ≡ true → nat_le last_stamp account.store ≡ false → is_over (effect account request) ≡ true → is_none (late_refusal account request) ≡ false
late-full account request writes clock over = λ i. is_none (first_some (where_so (writes i && clock i) ClockEnded ∷ where_so (writes i && over i) AccountFull ∷ []))

pub late-quiet : (account : Plain) (request : Request) → is_write account request ≡ false → late_refusal account request ≡ None
late-quiet account request quiet = λ i. first_some (where_so (quiet i && nat_le last_stamp account.store) ClockEnded ∷ where_so (quiet i && is_over (effect account request)) AccountFull ∷ [])

-- an account that is another is the same
pub same-from : (one other : Plain) → other ≡ one → SameAccount one other
same-from one other e = subst (SameAccount one) (sym e) (same-self one)

-- the rows without ids, whatever their order
pub cut-same : (collection : List ℕ) (one other : List (List ℕ)) (rows : List Row) → ((id : List ℕ) → is_among one id ≡ is_among other id) → rows_without collection one rows ≡ rows_without collection other rows
cut-same collection one other rows same i = filter (λ (row : Row). not (bytes_eq row.collection collection && same row.id i)) rows

-- a deletion never passes the limits
pub over-deleted : (account : Plain) (collection : List ℕ) → IsWithinLimits account → is_over (effect account (DeleteCollection collection Free)) ≡ false
over-deleted account collection within =
    let left : Plain = effect account (DeleteCollection collection Free) in
    let bytes : row_bytes left.rows ≤ row_bytes account.rows = sum_by-filter_le (λ (row : Row). not (bytes_eq row.collection collection)) (λ (row : Row). length row.payload) account.rows in
    let rows : length left.rows ≤ length account.rows = length-filter_le (λ (row : Row). not (bytes_eq row.collection collection)) account.rows in
    let names : length left.collections ≤ length account.collections = length-filter_le (λ (entry : List ℕ × ℕ). not (bytes_eq entry.0 collection)) account.collections in
    let light : row_bytes account.rows ≤ most_account_payload_bytes = within-bytes account.rows (length account.collections) within.within in
    let few : length account.rows + length account.collections ≤ most_rows_and_collections = within-number account.rows (length account.collections) within.within in
    over_test true left (λ e. record { within = within-both left.rows (length left.collections) (omega (arith, bytes, light)) (omega (arith, rows, names, few)) })

-- a count within the limits is exact
pub counted-exact : (measure : Measure) (account : Plain) (name : List ℕ) → IsWithinLimits account → counted_rows measure (rows_of name account.rows) ≡ number_of measure (rows_of name account.rows)
counted-exact Records account name within = refl
counted-exact Bytes account name within =
    let bytes : row_bytes (rows_of name account.rows) ≤ row_bytes account.rows = sum_by-filter_le (λ (row : Row). bytes_eq row.collection name) (λ (row : Row). length row.payload) account.rows in
    let all : row_bytes account.rows ≤ most_account_payload_bytes = within-bytes account.rows (length account.collections) within.within in
    omega (arith, bytes, all)

pub numbers-exact : (measure : Measure) (account : Plain) → IsWithinLimits account
    → map (λ (entry : List ℕ × ℕ). (entry.0, counted_rows measure (rows_of entry.0 account.rows))) (by_name account.collections) ≡ per_collection (number_of measure) account
numbers-exact measure account within = λ i. map (λ (entry : List ℕ × ℕ). (entry.0, counted-exact measure account entry.0 within i)) (by_name account.collections)

pub used-exact : (account : Plain) (total : ℕ) → IsWithinLimits account → total ≡ capped_number (row_bytes account.rows) → total ≡ row_bytes account.rows
used-exact account total within bytes =
    let all : row_bytes account.rows ≤ most_account_payload_bytes = within-bytes account.rows (length account.collections) within.within in
    omega (arith, bytes, all)

pub none-from : (o : Option ℕ) → ((x : ℕ) → o ≡ Some x → ⊥) → o ≡ None
none-from None h = refl
none-from (Some x) h = absurd (h x refl)

pub time-from : (missing : Bool) (time found : ℕ) → Some found ≡ cond missing None (Some time) → found ≡ time
time-from true time found e = cc
time-from false time found e = cc

pub present-from : (missing : Bool) (time found : ℕ) → Some found ≡ cond missing None (Some time) → missing ≡ false
present-from true time found e = cc
present-from false time found e = refl

-- a reply of the API is marked as done
pub api-mark : (account : Plain) (request : Request) (why : Option Refusal) → mark_of (outcome account request why).reply ≡ Done
api-mark account request (Some NoItem) = refl
api-mark account request (Some NotModified) = refl
api-mark account request (Some WasModified) = refl
api-mark account request (Some NoMoreBatches) = refl
api-mark account request (Some NoBatch) = refl
api-mark account request (Some BatchFull) = refl
api-mark account request (Some ClockEnded) = refl
api-mark account request (Some AccountFull) = refl
api-mark account (Info what condition) None = refl
api-mark account (DeleteAll condition) None = refl
api-mark account (ListOf collection query condition) None = refl
api-mark account (Post collection records PlainPost condition) None = refl
api-mark account (Post collection records Begin condition) None = refl
api-mark account (Post collection records (Append number) condition) None = refl
api-mark account (Post collection records (Commit number) condition) None = refl
api-mark account (DeleteCollection collection condition) None = refl
api-mark account (DeleteIds collection ids condition) None = refl
api-mark account (Get collection id condition) None = refl
api-mark account (Put collection id fields condition) None = refl
api-mark account (Delete collection id condition) None = refl
