use Rattle.std.specs.Prelude.{◌≡◌, ◌<◌, ◌+◌, ℕ, List, [], ◌∷◌, ◌++◌, length, map, take, All, Option, get_or}
use Rattle.std.proofs.Common.{sym, ap, subst, ◌∙◌, arith}
use Rattle.std.proofs.lemmas.List.{map-append, take_more}
use Rattle.std.proofs.lemmas.List.Elements.{All-push, All-weaker, Contains-get_or}
use Rattle.ss_booked.specs.declared.booked.Booked.{Booked}
use Rattle.ss_site.specs.Sites.{Counts, Entries, IsEntry}
use Rattle.ss_run_serve.specs.Hosted.{HostedAccount, hosted_account, hosted_at}
use Rattle.ss_run_serve.specs.Lending.{keepers_at}
use Rattle.ss_run_serve.specs.Opening.{AreAsBefore, CountsFaults, OpensAccount, IsWhyUnopened}
use Rattle.ss_run_serve.proofs.Opened.{take_whole}
use Rattle.ss_run_serve.proofs.Lent.{all_back, out_as, out_then}
use Rattle.ss_run_serve.proofs.Given.{given_still, hosted_uids, keepers_more, opened_so_far}
use Rattle.ss_run_serve.proofs.Retired.{all_as_before, as_before_then, counts_then, counts_unchanged, entry_as_before}
use Rattle.ss_run_serve.proofs.Retired.{refused_from, refused_on, refused_then, tells_same, tells_then}
use Rattle.ss_run_serve.proofs.opening.open_accounts.Goals as goal

pub returns-in-Err-clause-refused : goal.returns-in-Err-clause-refused
returns-in-Err-clause-refused g c =
    let uid : ℕ = get_or c.args.uids.now c.loop-uid.uid-index 0 in
    let inside : c.loop-uid.uid-index < length c.args.uids.now = omega arith in
    let why = subst (λ (k : Option Entries). IsWhyUnopened c.args.folder.now k (g.X.Site.counts c.args.site.now) (g.X.Site.counts c.open_account.new.site) uid c.in-Err.stop) c.loop-uid.invariant.kept
    (subst (λ (n : Counts). IsWhyUnopened c.args.folder.now (g.X.Site.kept c.loop-uid.site) n (g.X.Site.counts c.open_account.new.site) uid c.in-Err.stop) c.loop-uid.invariant.counts c.in-Err.ensures.refused) in
    refused_then c.args.folder.now (g.X.Site.kept c.args.site.now) (g.X.Site.counts c.args.site.now) (g.X.Site.counts c.open_account.new.site) (g.X.Site.counts c.retire_all.new.site) (map (hosted_at g.X.Keeper.Keeper.told g.X.Keeper.Keeper.keep_faults) c.loop-uid.accounts.items) c.args.uids.now uid c.in-Err.stop
    why c.retire_all.ensures.counted (Contains-get_or c.args.uids.now c.loop-uid.uid-index 0 inside)

pub returns-in-Err-clause-as_before : goal.returns-in-Err-clause-as_before
returns-in-Err-clause-as_before g c =
    let accounts : List (ℕ × HostedAccount) = map (hosted_at g.X.Keeper.Keeper.told g.X.Keeper.Keeper.keep_faults) c.loop-uid.accounts.items in
    let before : AreAsBefore (g.X.Site.kept c.args.site.now) (g.X.Site.kept c.open_account.new.site) =
    subst (λ (k : Option Entries). AreAsBefore k (g.X.Site.kept c.open_account.new.site)) c.loop-uid.invariant.kept c.in-Err.ensures.as_before in
    let entries : All (λ (a : ℕ × HostedAccount). IsEntry c.args.folder.now a.0 a.1.told (g.X.Site.kept c.open_account.new.site)) accounts =
    All-weaker (OpensAccount c.args.folder.now (g.X.Site.kept c.args.site.now)) (λ (a : ℕ × HostedAccount). IsEntry c.args.folder.now a.0 a.1.told (g.X.Site.kept c.open_account.new.site))
    (λ a opened. entry_as_before c.args.folder.now a.0 a.1.told (g.X.Site.kept c.args.site.now) (g.X.Site.kept c.open_account.new.site) before opened.entry) accounts c.loop-uid.invariant.opened in
    as_before_then (g.X.Site.kept c.args.site.now) (g.X.Site.kept c.open_account.new.site) (g.X.Site.kept c.retire_all.new.site) before
    (all_as_before c.args.folder.now accounts (g.X.Site.kept c.open_account.new.site) (g.X.Site.kept c.retire_all.new.site) entries c.retire_all.ensures.entries)

pub returns-in-Err-clause-counted : goal.returns-in-Err-clause-counted
returns-in-Err-clause-counted g c =
    counts_then (g.X.Site.counts c.args.site.now) (g.X.Site.counts c.open_account.new.site) (g.X.Site.counts c.retire_all.new.site) (map (hosted_at g.X.Keeper.Keeper.told g.X.Keeper.Keeper.keep_faults) c.loop-uid.accounts.items)
    (subst (λ (n : Counts). CountsFaults n (g.X.Site.counts c.open_account.new.site)) c.loop-uid.invariant.counts c.open_account.ensures.counted) c.retire_all.ensures.counted

pub returns-in-Err-clause-refused_as : goal.returns-in-Err-clause-refused_as
returns-in-Err-clause-refused_as g c =
    refused_on c.in-Err.stop (g.X.Site.counts c.args.site.now).refused (g.X.Site.counts c.open_account.new.site).refused (g.X.Site.counts c.retire_all.new.site).refused c.retire_all.ensures.counted.refused
    (refused_from c.in-Err.stop (g.X.Site.counts c.args.site.now).refused (g.X.Site.counts c.loop-uid.site).refused (g.X.Site.counts c.open_account.new.site).refused (ap (λ (n : Counts). n.refused) c.loop-uid.invariant.counts) c.in-Err.ensures.refused_as)

pub returns-in-Err-clause-stays : goal.returns-in-Err-clause-stays
returns-in-Err-clause-stays g c =
    tells_then (g.X.Site.kept c.args.site.now) (g.X.Site.kept c.open_account.new.site) (g.X.Site.kept c.retire_all.new.site)
    (tells_then (g.X.Site.kept c.args.site.now) (g.X.Site.kept c.loop-uid.site) (g.X.Site.kept c.open_account.new.site) (tells_same (g.X.Site.kept c.args.site.now) (g.X.Site.kept c.loop-uid.site) c.loop-uid.invariant.kept) c.open_account.ensures.stays)
    c.retire_all.ensures.stays

pub returns-clause-stays : goal.returns-clause-stays
returns-clause-stays g c = tells_same (g.X.Site.kept c.args.site.now) (g.X.Site.kept c.loop-uid.site) c.loop-uid.invariant.kept

-- the keepers of the accounts so far were given, and perhaps one more
pub retire_all-requires : goal.retire_all-requires
retire_all-requires g c = record {
  given =
      given_still c.args.folder.now (map (hosted_at g.X.Keeper.Keeper.told g.X.Keeper.Keeper.keep_faults) c.loop-uid.accounts.items) (get_or c.args.uids.now c.loop-uid.uid-index 0) (g.X.Site.lent c.args.site.now).keepers (g.X.Site.lent c.loop-uid.site).keepers (g.X.Site.lent c.open_account.new.site).keepers
      (c.loop-uid.invariant.keepers ∙ ap (λ (us : List ℕ). (g.X.Site.lent c.args.site.now).keepers ++ keepers_at c.args.folder.now us) (sym c.loop-uid.invariant.uids ∙ sym (hosted_uids (hosted_account g.X.Keeper.Keeper.told g.X.Keeper.Keeper.keep_faults) c.loop-uid.accounts.items))) c.open_account.ensures.keepers;
}

pub returns-clause-given : goal.returns-clause-given
returns-clause-given g c = c.loop-uid.invariant.keepers ∙ ap (λ (us : List ℕ). (g.X.Site.lent c.args.site.now).keepers ++ keepers_at c.args.folder.now us) (take_whole c.args.uids.now c.loop-uid.uid-index (omega arith))

pub returns-clause-opens : goal.returns-clause-opens
returns-clause-opens g c = (c.loop-uid.uid-index, c.loop-uid.invariant.keepers)

pub returns-in-Err-clause-opens : goal.returns-in-Err-clause-opens
returns-in-Err-clause-opens g c =
    let inside : c.loop-uid.uid-index < length c.args.uids.now = omega arith in
    let opens = opened_so_far c.args.folder.now c.args.uids.now c.loop-uid.uid-index inside (g.X.Site.lent c.args.site.now).keepers (g.X.Site.lent c.loop-uid.site).keepers (g.X.Site.lent c.open_account.new.site).keepers c.loop-uid.invariant.keepers c.open_account.ensures.keepers in
    (opens.0, c.retire_all.ensures.returned.keepers ∙ opens.1)

pub returns-clause-readings : goal.returns-clause-readings
returns-clause-readings g c = c.loop-uid.invariant.readings

pub returns-in-Err-clause-terms : goal.returns-in-Err-clause-terms
returns-in-Err-clause-terms g c = c.retire_all.ensures.terms ∙ c.open_account.ensures.terms ∙ c.loop-uid.invariant.terms

pub returns-in-Err-clause-logs : goal.returns-in-Err-clause-logs
returns-in-Err-clause-logs g c = c.retire_all.ensures.logs ∙ c.open_account.ensures.logs ∙ c.loop-uid.invariant.logs

pub loop-uid-preserved : goal.loop-uid-preserved
loop-uid-preserved g c =
    let uid : ℕ = get_or c.args.uids.now c.loop-uid.uid-index 0 in
    let inside : c.loop-uid.uid-index < length c.args.uids.now = omega arith in
    let one : List (ℕ × Booked g.row.X-Keeper.Denot g.X.Keeper.Keeper) = (uid, c.in-Ok-open_account.booked) ∷ [] in
    let invariant = c.loop-uid.invariant in
    record {
      uids = ap (λ (accounts : List (ℕ × Booked g.row.X-Keeper.Denot g.X.Keeper.Keeper)). map (λ (a : ℕ × Booked g.row.X-Keeper.Denot g.X.Keeper.Keeper). a.0) accounts) c.push_reserved.ensures.items ∙ map-append (λ (a : ℕ × Booked g.row.X-Keeper.Denot g.X.Keeper.Keeper). a.0) c.loop-uid.accounts.items one
          ∙ ap (λ (us : List ℕ). us ++ uid ∷ []) invariant.uids ∙ sym (take_more c.args.uids.now c.loop-uid.uid-index 0 inside);
      opened = subst (λ (accounts : List (ℕ × HostedAccount)). All (OpensAccount c.args.folder.now (g.X.Site.kept c.args.site.now)) accounts)
          (sym (ap (λ (accounts : List (ℕ × Booked g.row.X-Keeper.Denot g.X.Keeper.Keeper)). map (hosted_at g.X.Keeper.Keeper.told g.X.Keeper.Keeper.keep_faults) accounts) c.push_reserved.ensures.items ∙ map-append (hosted_at g.X.Keeper.Keeper.told g.X.Keeper.Keeper.keep_faults) c.loop-uid.accounts.items one))
          (All-push (OpensAccount c.args.folder.now (g.X.Site.kept c.args.site.now)) (map (hosted_at g.X.Keeper.Keeper.told g.X.Keeper.Keeper.keep_faults) c.loop-uid.accounts.items) (hosted_at g.X.Keeper.Keeper.told g.X.Keeper.Keeper.keep_faults (uid, c.in-Ok-open_account.booked)) invariant.opened
          (subst (λ (k : Option Entries). OpensAccount c.args.folder.now k (hosted_at g.X.Keeper.Keeper.told g.X.Keeper.Keeper.keep_faults (uid, c.in-Ok-open_account.booked))) invariant.kept c.in-Ok-open_account.ensures.opened));
      room = omega (arith, invariant.room, c.push_reserved.ensures.capacity);
      long = omega (arith, invariant.long, c.push_reserved.ensures.len);
      counts = c.in-Ok-open_account.ensures.unchanged.0 ∙ invariant.counts;
      addresses = c.open_account.ensures.addresses ∙ invariant.addresses;
      keepers = keepers_more c.args.folder.now c.args.uids.now c.loop-uid.uid-index inside (g.X.Site.lent c.args.site.now).keepers (g.X.Site.lent c.loop-uid.site).keepers (g.X.Site.lent c.open_account.new.site).keepers invariant.keepers c.in-Ok-open_account.ensures.keeper;
      readings = c.in-Ok-open_account.ensures.readings ∙ invariant.readings;
      lent = out_then c.loop-uid.uid-index 1 (g.X.Site.lent c.args.site.now) (g.X.Site.lent c.loop-uid.site) (g.X.Site.lent c.open_account.new.site) invariant.lent c.in-Ok-open_account.ensures.lent;
      terms = c.open_account.ensures.terms ∙ invariant.terms;
      kept = c.in-Ok-open_account.ensures.unchanged.1 ∙ invariant.kept;
      logs = c.open_account.ensures.logs ∙ invariant.logs;
    }

pub returns-clause-uids : goal.returns-clause-uids
returns-clause-uids g c = c.loop-uid.invariant.uids ∙ take_whole c.args.uids.now c.loop-uid.uid-index (omega arith)

pub returns-clause-opened : goal.returns-clause-opened
returns-clause-opened g c = c.loop-uid.invariant.opened

pub returns-clause-unchanged : goal.returns-clause-unchanged
returns-clause-unchanged g c = (c.loop-uid.invariant.counts, c.loop-uid.invariant.kept)

pub returns-clause-counted : goal.returns-clause-counted
returns-clause-counted g c = counts_unchanged (g.X.Site.counts c.args.site.now) (g.X.Site.counts c.loop-uid.site) c.loop-uid.invariant.counts

pub returns-clause-terms : goal.returns-clause-terms
returns-clause-terms g c = c.loop-uid.invariant.terms

pub returns-clause-logs : goal.returns-clause-logs
returns-clause-logs g c = c.loop-uid.invariant.logs

pub returns-clause-lent : goal.returns-clause-lent
returns-clause-lent g c = out_as c.loop-uid.uid-index (length c.loop-uid.accounts.items) (g.X.Site.lent c.args.site.now) (g.X.Site.lent c.loop-uid.site) (omega (arith, c.loop-uid.invariant.long)) c.loop-uid.invariant.lent

pub returns-in-Err-clause-returned : goal.returns-in-Err-clause-returned
returns-in-Err-clause-returned g c =
    all_back (length c.loop-uid.accounts.items) (g.X.Site.lent c.args.site.now) (g.X.Site.lent c.open_account.new.site) (g.X.Site.lent c.retire_all.new.site)
    (out_as (c.loop-uid.uid-index + 0) (length c.loop-uid.accounts.items) (g.X.Site.lent c.args.site.now) (g.X.Site.lent c.open_account.new.site) (omega (arith, c.loop-uid.invariant.long))
    (out_then c.loop-uid.uid-index 0 (g.X.Site.lent c.args.site.now) (g.X.Site.lent c.loop-uid.site) (g.X.Site.lent c.open_account.new.site) c.loop-uid.invariant.lent c.in-Err.ensures.returned))
    c.retire_all.ensures.returned

pub returns-clause-addresses : goal.returns-clause-addresses
returns-clause-addresses g c = c.loop-uid.invariant.addresses

pub returns-in-Err-clause-addresses : goal.returns-in-Err-clause-addresses
returns-in-Err-clause-addresses g c = c.retire_all.ensures.returned.addresses ∙ c.open_account.ensures.addresses ∙ c.loop-uid.invariant.addresses
