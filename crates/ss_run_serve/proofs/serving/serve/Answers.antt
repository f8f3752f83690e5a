use Rattle.std.specs.Prelude.{◌≡◌, ◌+◌, ◌∷◌, [], ◌++◌, ℕ, List, length, map, All, refl}
use Rattle.std.proofs.Common.{arith, ap, inl, inr, subst, ◌∙◌}
use Rattle.std.proofs.lemmas.List.{length-map}
use Rattle.std.specs.List.Sorted.{IsPermutation}
use Rattle.std.proofs.lemmas.List.Sorted.{length_permutation}
use Rattle.ss_booked.specs.declared.booked.Booked.{Booked}
use Rattle.ss_run_serve.specs.Hosted.{HostedAccount, hosted_account, hosted_at}
use Rattle.ss_site.specs.Sites.{LentParts}
use Rattle.ss_run_serve.specs.Lending.{ListensAt, OpensAt}
use Rattle.ss_run_serve.specs.Opening.{OpensAccount}
use Rattle.ss_run_serve.specs.Retiring.{HaveRetired, uids_in}
use Rattle.ss_run_serve.proofs.Given.{are_given, hosted_uids}
use Rattle.ss_run_serve.proofs.Lent.{all_back, out_as, out_then}
use Rattle.ss_run_serve.proofs.Whole.{opened_begun, opened_uids, refused_all, refused_same, served_open}
use Rattle.ss_run_serve.proofs.serving.serve.Goals as goal

pub serve_logged-accounts-requires-clause-begun : goal.serve_logged-accounts-requires-clause-begun
serve_logged-accounts-requires-clause-begun g c κs within = opened_begun c.as_str-folder.result.now (g.X.Site.kept c.args.site.now) (map (hosted_at g.X.Keeper.Keeper.told g.X.Keeper.Keeper.keep_faults) c.in-Ok.accounts.items) c.in-Ok.ensures.opened

pub returns-in-Err-clause-served : goal.returns-in-Err-clause-served
returns-in-Err-clause-served g c =
    refused_all g.X.Port.Link.Told.told g.X.Port.Link.Closable.closed (g.G.Gate.says c.args.gate.now) c.args.command.now c.in-Err.stop (record { counts = g.X.Site.counts c.args.site.now; terms = g.X.Site.terms c.args.site.now; kept = g.X.Site.kept c.args.site.now; logs = g.X.Site.logs c.args.site.now; readings = (g.X.Site.lent c.args.site.now).readings }) (record { counts = g.X.Site.counts c.open_accounts.new.site; terms = g.X.Site.terms c.open_accounts.new.site; kept = g.X.Site.kept c.open_accounts.new.site; logs = g.X.Site.logs c.open_accounts.new.site; readings = (g.X.Site.lent c.open_accounts.new.site).readings })
    (refused_same (g.X.Site.kept c.args.site.now) (g.X.Site.counts c.args.site.now) (g.X.Site.counts c.open_accounts.new.site) c.as_str-folder.result.now c.args.command.now.folder c.as_slice.result.now c.args.command.now.uids c.in-Err.stop c.as_str-folder.ensures c.as_slice.ensures c.in-Err.ensures.refused) c.in-Err.ensures.refused_as c.in-Err.ensures.as_before c.open_accounts.ensures.stays c.open_accounts.ensures.counted c.open_accounts.ensures.terms c.open_accounts.ensures.logs

pub returns-clause-served : goal.returns-clause-served
returns-clause-served g c =
    served_open g.X.Port.Link.Told.told g.X.Port.Link.Closable.closed (g.G.Gate.says c.args.gate.now) c.args.command.now c.serve_logged-accounts.result.1 (record { counts = g.X.Site.counts c.args.site.now; terms = g.X.Site.terms c.args.site.now; kept = g.X.Site.kept c.args.site.now; logs = g.X.Site.logs c.args.site.now; readings = (g.X.Site.lent c.args.site.now).readings }) (record { counts = g.X.Site.counts c.open_accounts.new.site; terms = g.X.Site.terms c.open_accounts.new.site; kept = g.X.Site.kept c.open_accounts.new.site; logs = g.X.Site.logs c.open_accounts.new.site; readings = (g.X.Site.lent c.open_accounts.new.site).readings }) (record { counts = g.X.Site.counts c.serve_logged-accounts.new.site; terms = g.X.Site.terms c.serve_logged-accounts.new.site; kept = g.X.Site.kept c.serve_logged-accounts.new.site; logs = g.X.Site.logs c.serve_logged-accounts.new.site; readings = (g.X.Site.lent c.serve_logged-accounts.new.site).readings }) (record { counts = g.X.Site.counts c.retire_all.new.site; terms = g.X.Site.terms c.retire_all.new.site; kept = g.X.Site.kept c.retire_all.new.site; logs = g.X.Site.logs c.retire_all.new.site; readings = (g.X.Site.lent c.retire_all.new.site).readings })
    (map (hosted_at g.X.Keeper.Keeper.told g.X.Keeper.Keeper.keep_faults) c.in-Ok.accounts.items) (map (hosted_at g.X.Keeper.Keeper.told g.X.Keeper.Keeper.keep_faults) c.serve_logged-accounts.result.0.items)
    (opened_uids (hosted_account g.X.Keeper.Keeper.told g.X.Keeper.Keeper.keep_faults) c.args.command.now.uids c.in-Ok.accounts.items (c.in-Ok.ensures.uids ∙ c.as_slice.ensures))
    (subst (λ (folder : List ℕ). All (OpensAccount folder (g.X.Site.kept c.args.site.now)) (map (hosted_at g.X.Keeper.Keeper.told g.X.Keeper.Keeper.keep_faults) c.in-Ok.accounts.items)) c.as_str-folder.ensures c.in-Ok.ensures.opened) c.in-Ok.ensures.unchanged.0 c.in-Ok.ensures.unchanged.1 c.open_accounts.ensures.terms c.open_accounts.ensures.logs c.in-Ok.ensures.readings
    c.serve_logged-accounts.ensures.came c.serve_logged-accounts.ensures.failed c.serve_logged-accounts.ensures.kept c.retire_all.ensures.terms c.retire_all.ensures.logs (subst (λ (folder : List ℕ). HaveRetired folder (map (hosted_at g.X.Keeper.Keeper.told g.X.Keeper.Keeper.keep_faults) c.serve_logged-accounts.result.0.items) (g.X.Site.kept c.serve_logged-accounts.new.site) (g.X.Site.kept c.retire_all.new.site)) c.as_str-folder.ensures c.retire_all.ensures.entries) c.retire_all.ensures.stays c.retire_all.ensures.counted c.retire_all.ensures.stand

pub returns-clause-returned : goal.returns-clause-returned
returns-clause-returned g c =
    let view : ℕ × Booked g.row.X-Keeper.Denot g.X.Keeper.Keeper → ℕ × HostedAccount = hosted_at g.X.Keeper.Keeper.told g.X.Keeper.Keeper.keep_faults in
    let before : List (ℕ × HostedAccount) = map view c.in-Ok.accounts.items in
    let after : List (ℕ × HostedAccount) = map view c.serve_logged-accounts.result.0.items in
    let long : length c.in-Ok.accounts.items + 0 ≡ length c.serve_logged-accounts.result.0.items = omega (
      arith,
      length_permutation (uids_in before) (uids_in after) c.serve_logged-accounts.ensures.came.uids,
      length-map before (λ (a : ℕ × HostedAccount). a.0),
      length-map after (λ (a : ℕ × HostedAccount). a.0),
      length-map c.in-Ok.accounts.items view,
      length-map c.serve_logged-accounts.result.0.items view,
    ) in
    all_back (length c.serve_logged-accounts.result.0.items) (g.X.Site.lent c.args.site.now) (g.X.Site.lent c.serve_logged-accounts.new.site) (g.X.Site.lent c.retire_all.new.site)
    (out_as (length c.in-Ok.accounts.items + 0) (length c.serve_logged-accounts.result.0.items) (g.X.Site.lent c.args.site.now) (g.X.Site.lent c.serve_logged-accounts.new.site) long
    (out_then (length c.in-Ok.accounts.items) 0 (g.X.Site.lent c.args.site.now) (g.X.Site.lent c.open_accounts.new.site) (g.X.Site.lent c.serve_logged-accounts.new.site) c.in-Ok.ensures.lent c.serve_logged-accounts.ensures.returned))
    c.retire_all.ensures.returned

pub returns-in-Err-clause-listens : goal.returns-in-Err-clause-listens
returns-in-Err-clause-listens g c = inl c.open_accounts.ensures.addresses

-- what was given in between is all that was given
between : (address : List ℕ) (old opened served new : LentParts) → opened.addresses ≡ old.addresses → ListensAt address opened served → new.addresses ≡ served.addresses → ListensAt address old new
between address old opened served new first (inl none) last = inl (last ∙ none ∙ first)
between address old opened served new first (inr one) last = inr (last ∙ one ∙ ap (λ (all : List (List ℕ)). all ++ address ∷ []) first)

pub returns-clause-listens : goal.returns-clause-listens
returns-clause-listens g c =
    between c.args.command.now.address (g.X.Site.lent c.args.site.now) (g.X.Site.lent c.open_accounts.new.site) (g.X.Site.lent c.serve_logged-accounts.new.site) (g.X.Site.lent c.retire_all.new.site)
    c.open_accounts.ensures.addresses c.serve_logged-accounts.ensures.listens c.retire_all.ensures.returned.addresses

-- the keepers that come back were given as the accounts were opened
pub retire_all-requires : goal.retire_all-requires
retire_all-requires g c = record {
  given =
      let view : ℕ × Booked g.row.X-Keeper.Denot g.X.Keeper.Keeper → ℕ × HostedAccount = hosted_at g.X.Keeper.Keeper.told g.X.Keeper.Keeper.keep_faults in
      let before : List (ℕ × HostedAccount) = map view c.in-Ok.accounts.items in
      let after : List (ℕ × HostedAccount) = map view c.serve_logged-accounts.result.0.items in
      let uids : uids_in before ≡ c.as_slice.result.now = hosted_uids (hosted_account g.X.Keeper.Keeper.told g.X.Keeper.Keeper.keep_faults) c.in-Ok.accounts.items ∙ c.in-Ok.ensures.uids in
      are_given c.as_str-folder.result.now after c.as_slice.result.now (g.X.Site.lent c.args.site.now).keepers (g.X.Site.lent c.serve_logged-accounts.new.site).keepers
      (subst (λ (us : List ℕ). IsPermutation us (uids_in after)) uids c.serve_logged-accounts.ensures.came.uids) (c.serve_logged-accounts.ensures.keepers ∙ c.in-Ok.ensures.given);
}

-- the keepers that were given as the accounts were opened are all that were given
opens_on : (folder folder' uids uids' : List ℕ) (old opened new : LentParts) → folder ≡ folder' → uids ≡ uids' → OpensAt folder uids old opened → new.keepers ≡ opened.keepers → OpensAt folder' uids' old new
opens_on folder folder' uids uids' old opened new one two opens same =
    subst (λ (us : List ℕ). OpensAt folder' us old new) two (subst (λ (f : List ℕ). OpensAt f uids old new) one (opens.0, same ∙ opens.1))

pub returns-in-Err-clause-opens : goal.returns-in-Err-clause-opens
returns-in-Err-clause-opens g c =
    opens_on c.as_str-folder.result.now c.args.command.now.folder c.as_slice.result.now c.args.command.now.uids (g.X.Site.lent c.args.site.now) (g.X.Site.lent c.open_accounts.new.site) (g.X.Site.lent c.open_accounts.new.site)
    c.as_str-folder.ensures c.as_slice.ensures c.open_accounts.ensures.opens refl

pub returns-clause-opens : goal.returns-clause-opens
returns-clause-opens g c =
    opens_on c.as_str-folder.result.now c.args.command.now.folder c.as_slice.result.now c.args.command.now.uids (g.X.Site.lent c.args.site.now) (g.X.Site.lent c.open_accounts.new.site) (g.X.Site.lent c.retire_all.new.site)
    c.as_str-folder.ensures c.as_slice.ensures c.open_accounts.ensures.opens (c.retire_all.ensures.returned.keepers ∙ c.serve_logged-accounts.ensures.keepers)
