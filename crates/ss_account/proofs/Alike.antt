-- What a condition doesn't change of a request that it lets pass: a request comes to what its kind names.
use Rattle.std.specs.Prelude.{◌≡◌, ◌||◌, ◌&&◌, false, not, cond, List, [], ◌∷◌, Option, Some, None, is_none, refl}
use Rattle.std.proofs.Common.{sym, ap, subst, ◌∙◌}
use Rattle.ss_text.specs.declared.stamps.Cond.TheVariants.{Free}
use Rattle.ss_bso.specs.declared.account.Plain.{Plain}
use Rattle.ss_bso.specs.declared.parts.Part.{Part}
use Rattle.ss_bso.specs.Write.{rows_without, account_after_write, write}
use Rattle.ss_query.specs.declared.requests.Request.{Request}
use Rattle.ss_query.specs.declared.requests.Request.TheVariants.{Info, DeleteAll, List as ListOf, Post}
use Rattle.ss_query.specs.declared.requests.Request.TheVariants.{DeleteCollection, DeleteIds, Get, Put, Delete}
use Rattle.ss_query.specs.Refused.{Refusal, with_condition}
use Rattle.ss_query.specs.Effect.{effect, is_empty, is_write, stamp_in}
use Rattle.ss_query.specs.Api.{done_outcome, outcome, refusal}
use Rattle.ss_laws.specs.Laws.{is_of_batch}
use Rattle.ss_account.specs.Keeping.{is_for_keeper}
use Rattle.ss_account.specs.Kinds.{IsRead, IsStage, IsWrite, request_read, request_staged, request_written}
use Rattle.ss_account.specs.Steps.{late_refusal}
use Rattle.ss_account.specs.declared.kinds.ReadRequest.{ReadRequest}
use Rattle.ss_account.specs.declared.kinds.ReadRequest.TheVariants as reads
use Rattle.ss_account.specs.declared.kinds.StageRequest.{StageRequest}
use Rattle.ss_account.specs.declared.kinds.WriteRequest.{WriteRequest}
use Rattle.ss_account.proofs.Stepping.{late-quiet}

-- two requests come to the same once their conditions have let them pass
pub record IsAlike (account : Plain) (request other : Request) : Type 0 where
  pub done : (why : Option Refusal) → outcome account request why ≡ outcome account other why
  pub late : late_refusal account request ≡ late_refusal account other
  pub writes : is_write account request ≡ is_write account other

done-free : (account : Plain) (request : Request) (why : Option Refusal) → outcome account request why ≡ outcome account (with_condition Free request) why
done-free account (Info what condition) None = refl
done-free account (Info what condition) (Some why) = refl
done-free account (DeleteAll condition) None = refl
done-free account (DeleteAll condition) (Some why) = refl
done-free account (ListOf collection query condition) None = refl
done-free account (ListOf collection query condition) (Some why) = refl
done-free account (Post collection records mode condition) None = refl
done-free account (Post collection records mode condition) (Some why) = refl
done-free account (DeleteCollection collection condition) None = refl
done-free account (DeleteCollection collection condition) (Some why) = refl
done-free account (DeleteIds collection ids condition) None = refl
done-free account (DeleteIds collection ids condition) (Some why) = refl
done-free account (Get collection id condition) None = refl
done-free account (Get collection id condition) (Some why) = refl
done-free account (Put collection id fields condition) None = refl
done-free account (Put collection id fields condition) (Some why) = refl
done-free account (Delete collection id condition) None = refl
done-free account (Delete collection id condition) (Some why) = refl

alike-free : (account : Plain) (request : Request) → IsAlike account request (with_condition Free request)
alike-free account (Info what condition) = record { done = done-free account (Info what condition); late = refl; writes = refl }
alike-free account (DeleteAll condition) = record { done = done-free account (DeleteAll condition); late = refl; writes = refl }
alike-free account (ListOf collection query condition) =
    record { done = done-free account (ListOf collection query condition); late = refl; writes = refl }
alike-free account (Post collection records mode condition) =
    record { done = done-free account (Post collection records mode condition); late = refl; writes = refl }
alike-free account (DeleteCollection collection condition) =
    record { done = done-free account (DeleteCollection collection condition); late = refl; writes = refl }
alike-free account (DeleteIds collection ids condition) =
    record { done = done-free account (DeleteIds collection ids condition); late = refl; writes = refl }
alike-free account (Get collection id condition) = record { done = done-free account (Get collection id condition); late = refl; writes = refl }
alike-free account (Put collection id fields condition) =
    record { done = done-free account (Put collection id fields condition); late = refl; writes = refl }
alike-free account (Delete collection id condition) =
    record { done = done-free account (Delete collection id condition); late = refl; writes = refl }

-- a request is alike the one that its kind names
pub alike : (account : Plain) (request other : Request) → with_condition Free request ≡ other → IsAlike account request other
alike account request other e = subst (IsAlike account request) e (alike-free account request)

-- an admitted write comes to what it names, and is for the keeper where no late refusal is
pub written-as : (account : Plain) (request : Request) (write : WriteRequest) → IsWrite account request write → refusal account request ≡ late_refusal account request
    → outcome account request (refusal account request) ≡ outcome account (request_written write) (late_refusal account (request_written write))
written-as account request write is passes =
    let same = alike account request (request_written write) is.asks in same.done (refusal account request) ∙ ap (outcome account (request_written write)) (passes ∙ same.late)

pub written-for_keeper : (account : Plain) (request : Request) (write : WriteRequest) → IsWrite account request write → refusal account request ≡ late_refusal account request
    → is_none (late_refusal account (request_written write)) ≡ is_for_keeper account request
written-for_keeper account request write is passes =
    let same = alike account request (request_written write) is.asks in
    λ i. (sym is.writes i || is_of_batch request) && is_none (sym (passes ∙ same.late) i)

-- an admitted request that is no write is done
quiet-done : (account : Plain) (request : Request) → is_write account request ≡ false → refusal account request ≡ late_refusal account request → outcome account request (refusal account request) ≡ done_outcome account request
quiet-done account request quiet passes = ap (outcome account request) (passes ∙ late-quiet account request quiet)

pub staged-as : (account : Plain) (request : Request) (stage : StageRequest) → IsStage account request stage → refusal account request ≡ late_refusal account request
    → outcome account request (refusal account request) ≡ done_outcome account (request_staged stage)
staged-as account request stage is passes = quiet-done account request is.quiet passes ∙ (alike account request (request_staged stage) is.asks).done None

-- and a read leaves the account
read-leaves : (account : Plain) (read : ReadRequest) → is_write account (request_read read) ≡ false → effect account (request_read read) ≡ account
read-leaves account (reads.Info what) e = refl
read-leaves account (reads.List collection query) e = refl
read-leaves account (reads.Get collection id) e = refl
read-leaves account (reads.Post collection records) e = by records.now.parts e
  where
    by : (parts : List Part) → not (is_empty parts) ≡ false → record (cond (is_empty parts) account (write account collection.now parts (stamp_in account))) { batches = account.batches; counter = account.counter } ≡ account
    by [] h = refl
    by (part ∷ parts) h = cc
read-leaves account (reads.DeleteIds collection ids) e =
    λ i. cond (e i) (account_after_write account collection.now (stamp_in account) (rows_without collection.now ids.now account.rows)) account

pub read-as : (account : Plain) (request : Request) (read : ReadRequest) → IsRead account request read → refusal account request ≡ late_refusal account request → (outcome account request (refusal account request)).account ≡ account
read-as account request read is passes =
    let same = alike account request (request_read read) is.asks in
    ap (λ out. out.account) (quiet-done account request is.quiet passes ∙ same.done None) ∙ read-leaves account read (sym same.writes ∙ is.quiet)
