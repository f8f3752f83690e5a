-- How a sync ends.
use Rattle.std.proofs.Common.{◌≡◌, ◌≢◌, ℕ, List, Option, Some, None, Err, refl, sym, ap, ◌∙◌, subst, inl, inr, arith}
use Rattle.ss_outside.specs.Told.{Meanings}
use Rattle.ss_outside.specs.Causes.{Rose}
use Rattle.ss_links.specs.Stores.{Files, HasSaved}
use Rattle.ss_device.specs.Device.{DeviceView}
use Rattle.ss_device.specs.Writing.{device_text}
use Rattle.ss_client.specs.declared.summaries.Summary.{Summary}
use Rattle.ss_client.specs.declared.summaries.SyncFault.{SyncFault}
use Rattle.ss_client.specs.declared.summaries.SyncFault.TheVariants as fault
use Rattle.ss_client.specs.declared.summaries.Fetch.{Fetch}
use Rattle.ss_client.specs.declared.runs.Stage.TheVariants.{Asks}
use Rattle.ss_client.specs.Runs.{MachineView, first_run, is_newer}
use Rattle.ss_run_sync.specs.Course.{Account}
use Rattle.ss_words.specs.declared.commands.SyncCommand.{SyncCommand}
use Rattle.ss_run_sync.specs.declared.linking.Came.{Came}
use Rattle.ss_run_sync.specs.declared.linking.Came.TheVariants as came
use Rattle.ss_run_sync.specs.declared.endings.Ending.{Ending}
use Rattle.ss_run_sync.specs.declared.endings.Ending.TheVariants.{Synced, OtherWords, Stopped, Failed, Unprinted}
use Rattle.ss_run_sync.specs.declared.endings.Trouble.{Trouble}
use Rattle.ss_run_sync.specs.declared.endings.Trouble.TheVariants as trouble
use Rattle.ss_run_sync.specs.declared.reports.Report.{Report}
use Rattle.ss_run_sync.specs.declared.reports.Report.TheVariants.{Line, Short}
use Rattle.ss_run_sync.specs.Endings.{status_of, status_of_stop, status_of_size, too_large, line_of}
use Rattle.ss_run_sync.specs.Endings.{ending_told, line_told, Tells, Reports, Prints}
use Rattle.ss_run_sync.specs.Naming.{host_named}
use Rattle.ss_links.specs.Dials.{Address}
use Rattle.ss_run_sync.specs.Links.{IsRunOverLinks}
use Rattle.ss_run_sync.specs.Syncs.{Outside, Starts, Loads, Saves, KeepsFiles, Closes, Syncs, Went, undialled, dialled}
use Rattle.ss_run_sync.specs.Syncs.{account_of, address_of, machine_of, fetch_of}
use Rattle.ss_run_sync.specs.Runs.{Runs, Causes, syncs, asks_nothing, out_of_memory}

-- what is told of an ending is printed
pub prints_told : (ending : Ending) (report : Report) (result : Ending) (a b : Meanings) → Tells ending report → Prints (ending_told report) (line_told report) result a b → Prints ending (line_of ending) result a b
prints_told ending (Line told line) result a b t p = subst (λ l. Prints ending l result a b) t.1 (subst (λ e. Prints e line.items result a b) t.0 p)
prints_told ending (Short what) result a b t p = subst (λ e. Prints e (line_of e) result a b) (sym t) p

-- before anything is dialled
pub went_undialled : (command : SyncCommand) (what : Trouble) (old new : Outside) → Loads command.file (Err what) old.held new.held old.store_faults new.store_faults → new.asked ≡ old.asked → new.hung ≡ old.hung
    → new.dial_faults ≡ old.dial_faults → Went command (Short what) old new
went_undialled command what old new l a h f = record { ending = Failed what; tells = refl; syncs = undialled what refl l a h f }

-- ---- over links

-- a run of a machine with an account at the address that a command names
abbrev Over : SyncCommand → Came → Outside → Outside → Account → MachineView → Type 0
Over command what old new account m = IsRunOverLinks account m what old.dial_faults new.dial_faults old.hung new.hung (address_of command) old.asked new.asked

-- a sync that loaded a device, whose run came to this, and that has this end to come
pub record Ran (command : SyncCommand) (what : Came) (old new : Outside) : Type 0 where
  pub device : DeviceView
  pub starts : Starts old.held command.file device
  pub run : IsRunOverLinks (account_of command) (machine_of command device) what old.dial_faults new.dial_faults old.hung new.hung (address_of command) old.asked new.asked

-- the device that was loaded from the file of this name, and the run of the machine that was started for it, under this host
pub ran_of : (command : SyncCommand) (file host : List ℕ) (d : DeviceView) (m : MachineView) (fetch : Fetch) (what : Came) (old new : Outside) → file ≡ command.file → host ≡ host_named command.server
    → m ≡ record { device = d; run = first_run (is_newer d fetch); stage = Asks } → fetch ≡ fetch_of command → Starts old.held file d
    → IsRunOverLinks (record { uid = command.server.uid; host = host }) m what old.dial_faults new.dial_faults old.hung new.hung (address_of command) old.asked new.asked → Ran command what old new
ran_of command file host d m fetch what old new e h is f s r = record {
  device = d;
  starts = subst (λ x. Starts old.held x d) e s;
  run = subst (λ x. Over command what old new (record { uid = command.server.uid; host = x }) (machine_of command d)) h
      (subst (λ (x : Fetch). Over command what old new (record { uid = command.server.uid; host = host }) (record { device = d; run = first_run (is_newer d x); stage = Asks })) f
      (subst (λ (x : MachineView). Over command what old new (record { uid = command.server.uid; host = host }) x) is r));
}

went : (command : SyncCommand) (what : Came) (ending : Ending) (report : Report) (old new : Outside) → Ran command what old new → Tells ending report → Closes command.file what ending old new → Went command report old new
went command what ending report old new r t c = record { ending = ending; tells = t; syncs = dialled r.device what r.starts r.run c }

pub went_done : (command : SyncCommand) (d : DeviceView) (summary : Summary) (report : Report) (old new : Outside) (held : Option Files) (faults : ℕ) → Ran command (came.Done d summary) old new
    → held ≡ old.held → faults ≡ old.store_faults → Saves command.file d summary report held new.held faults new.store_faults → Went command report old new
went_done command d summary (Line told line) old new held faults r h f s =
    went command (came.Done d summary) (Synced summary) (Line told line) old new r (s.0, s.1) (refl, subst (λ x. HasSaved command.file (device_text d) x new.held) h s.2, s.3 ∙ f)
went_done command d summary (Short trouble.Store) old new held faults r h f s =
    went command (came.Done d summary) (Failed trouble.Store) (Short trouble.Store) old new r refl (s.0 ∙ h, subst (λ x. Rose x new.store_faults) f s.1)
went_done command d summary (Short trouble.Memory) old new held faults r h f s =
    went command (came.Done d summary) (Failed trouble.Memory) (Short trouble.Memory) old new r refl (s.0 ∙ h, s.1 ∙ f)
went_done command d summary (Short trouble.Wire) old new held faults r h f s = absurd s
went_done command d summary (Short trouble.Device) old new held faults r h f s = absurd s

pub went_stopped : (command : SyncCommand) (f : SyncFault) (report : Report) (old new : Outside) → Ran command (came.Stop f) old new → KeepsFiles old new → Reports f report → Went command report old new
went_stopped command f (Line told line) old new r k s = went command (came.Stop f) (Stopped f) (Line told line) old new r (s.0, s.1) (refl, k)
went_stopped command f (Short what) old new r k s = went command (came.Stop f) (Failed trouble.Memory) (Short what) old new r (ap Failed (sym s)) k

pub went_wire : (command : SyncCommand) (old new : Outside) → Ran command came.Wire old new → KeepsFiles old new → Went command (Short trouble.Wire) old new
went_wire command old new r k = went command came.Wire (Failed trouble.Wire) (Short trouble.Wire) old new r refl k

pub went_memory : (command : SyncCommand) (old new : Outside) → Ran command came.Memory old new → KeepsFiles old new → Went command (Short trouble.Memory) old new
went_memory command old new r k = went command came.Memory (Failed trouble.Memory) (Short trouble.Memory) old new r refl k

-- ---- files that are kept, and counts that rose

-- unless a sync is done the files are as before
closes_kept : (file : List ℕ) (what : Came) (ending : Ending) (old new : Outside) → Closes file what ending old new → status_of ending ≢ 0 → new.held ≡ old.held
closes_kept file (came.Done d s) (Synced x) old new c n = absurd (n refl)
closes_kept file (came.Done d s) (Stopped f) old new c n = absurd c
closes_kept file (came.Done d s) (Failed trouble.Wire) old new c n = absurd c
closes_kept file (came.Done d s) (Failed trouble.Device) old new c n = absurd c
closes_kept file (came.Done d s) (Failed trouble.Store) old new c n = c.0
closes_kept file (came.Done d s) (Failed trouble.Memory) old new c n = c.0
closes_kept file (came.Done d s) OtherWords old new c n = absurd c
closes_kept file (came.Done d s) Unprinted old new c n = absurd c
closes_kept file (came.Stop f) (Synced x) old new c n = absurd c
closes_kept file (came.Stop f) (Stopped g) old new c n = c.1.0
closes_kept file (came.Stop f) (Failed trouble.Wire) old new c n = absurd c
closes_kept file (came.Stop f) (Failed trouble.Device) old new c n = absurd c
closes_kept file (came.Stop f) (Failed trouble.Store) old new c n = absurd c
closes_kept file (came.Stop f) (Failed trouble.Memory) old new c n = c.0
closes_kept file (came.Stop f) OtherWords old new c n = absurd c
closes_kept file (came.Stop f) Unprinted old new c n = absurd c
closes_kept file came.Wire (Synced x) old new c n = absurd c
closes_kept file came.Wire (Stopped g) old new c n = absurd c
closes_kept file came.Wire (Failed trouble.Wire) old new c n = c.0
closes_kept file came.Wire (Failed trouble.Device) old new c n = absurd c
closes_kept file came.Wire (Failed trouble.Store) old new c n = absurd c
closes_kept file came.Wire (Failed trouble.Memory) old new c n = absurd c
closes_kept file came.Wire OtherWords old new c n = absurd c
closes_kept file came.Wire Unprinted old new c n = absurd c
closes_kept file came.Memory (Synced x) old new c n = absurd c
closes_kept file came.Memory (Stopped g) old new c n = absurd c
closes_kept file came.Memory (Failed trouble.Wire) old new c n = absurd c
closes_kept file came.Memory (Failed trouble.Device) old new c n = absurd c
closes_kept file came.Memory (Failed trouble.Store) old new c n = absurd c
closes_kept file came.Memory (Failed trouble.Memory) old new c n = c.0
closes_kept file came.Memory OtherWords old new c n = absurd c
closes_kept file came.Memory Unprinted old new c n = absurd c

loads_kept : (name : List ℕ) (what : Trouble) (held held' : Option Files) (f g : ℕ) → Loads name (Err what) held held' f g → held' ≡ held
loads_kept name trouble.Wire held held' f g l = absurd l
loads_kept name trouble.Device held held' f g l = l.1
loads_kept name trouble.Store held held' f g l = l.0
loads_kept name trouble.Memory held held' f g l = l.0

syncs_kept : (command : SyncCommand) (ending : Ending) (old new : Outside) → Syncs command ending old new → status_of ending ≢ 0 → new.held ≡ old.held
syncs_kept command ending old new (undialled what e l a h f) n = loads_kept command.file what old.held new.held old.store_faults new.store_faults l
syncs_kept command ending old new (dialled d what s r c) n = closes_kept command.file what ending old new c n

pub kept_of : (words : List (List ℕ)) (result : Ending) (old new : Outside) (a b : Meanings) → Runs words result old new a b → status_of result ≢ 0 → status_of result ≢ 10 → new.held ≡ old.held
kept_of words result old new a b (syncs command ending asks s (inl p)) n m = syncs_kept command ending old new s (λ z. n (ap status_of p.0 ∙ z))
kept_of words result old new a b (syncs command ending asks s (inr p)) n m = absurd (m (ap status_of p.0))
kept_of words result old new a b (asks_nothing asks e s w) n m = ap (λ (o : Outside). o.held) s
kept_of words result old new a b (out_of_memory s p) n m = ap (λ (o : Outside). o.held) s

-- a run that stopped has neither of the statuses 2 and 7
record HasOther (n : ℕ) : Type 0 where
  two : n ≢ 2
  seven : n ≢ 7

size_other : (o : Option ℕ) → HasOther (status_of_size o)
size_other (Some n) = record { two = λ e. absurd (omega arith); seven = λ e. absurd (omega arith) }
size_other None = record { two = λ e. absurd (omega arith); seven = λ e. absurd (omega arith) }

stop_other : (f : SyncFault) → HasOther (status_of_stop f)
stop_other (fault.Refused status id) = record { two = λ e. absurd (omega arith); seven = λ e. absurd (omega arith) }
stop_other (fault.Changing a b c d) = record { two = λ e. absurd (omega arith); seven = λ e. absurd (omega arith) }
stop_other (fault.Plan f) = size_other (too_large f)
stop_other (fault.BadReply n) = record { two = λ e. absurd (omega arith); seven = λ e. absurd (omega arith) }
stop_other fault.Memory = record { two = λ e. absurd (omega arith); seven = λ e. absurd (omega arith) }

is_wire : (ending : Ending) → status_of ending ≡ 2 → ending ≡ Failed trouble.Wire
is_wire (Synced s) e = absurd (omega arith)
is_wire (Stopped f) e = absurd ((stop_other f).two e)
is_wire (Failed trouble.Wire) e = refl
is_wire (Failed trouble.Device) e = absurd (omega arith)
is_wire (Failed trouble.Store) e = absurd (omega arith)
is_wire (Failed trouble.Memory) e = absurd (omega arith)
is_wire OtherWords e = absurd (omega arith)
is_wire Unprinted e = absurd (omega arith)

is_store : (ending : Ending) → status_of ending ≡ 7 → ending ≡ Failed trouble.Store
is_store (Synced s) e = absurd (omega arith)
is_store (Stopped f) e = absurd ((stop_other f).seven e)
is_store (Failed trouble.Wire) e = absurd (omega arith)
is_store (Failed trouble.Device) e = absurd (omega arith)
is_store (Failed trouble.Store) e = refl
is_store (Failed trouble.Memory) e = absurd (omega arith)
is_store OtherWords e = absurd (omega arith)
is_store Unprinted e = absurd (omega arith)

same_trouble : (what that : Trouble) → Failed what ≡ Failed that → what ≡ that
same_trouble what that e = cc

closes_wire : (file : List ℕ) (account : Account) (m : MachineView) (address : Address) (what : Came) (old new : Outside)
    → IsRunOverLinks account m what old.dial_faults new.dial_faults old.hung new.hung address old.asked new.asked → Closes file what (Failed trouble.Wire) old new → Rose old.dial_faults new.dial_faults
closes_wire file account m address (came.Done d s) old new r c = absurd c
closes_wire file account m address (came.Stop f) old new r c = absurd c
closes_wire file account m address came.Wire old new r c = r.comes.1
closes_wire file account m address came.Memory old new r c = absurd c

closes_store : (file : List ℕ) (what : Came) (old new : Outside) → Closes file what (Failed trouble.Store) old new → Rose old.store_faults new.store_faults
closes_store file (came.Done d s) old new c = c.1
closes_store file (came.Stop f) old new c = absurd c
closes_store file came.Wire old new c = absurd c
closes_store file came.Memory old new c = absurd c

-- a sync that ended so
ended_wire : (command : SyncCommand) (ending : Ending) (old new : Outside) → Syncs command ending old new → ending ≡ Failed trouble.Wire → Rose old.dial_faults new.dial_faults
ended_wire command ending old new (undialled what e l a h f) is =
    absurd (subst (λ t. Loads command.file (Err t) old.held new.held old.store_faults new.store_faults) (same_trouble what trouble.Wire (sym e ∙ is)) l)
ended_wire command ending old new (dialled d what s r c) is =
    closes_wire command.file (account_of command) (machine_of command d) (address_of command) what old new r (subst (λ x. Closes command.file what x old new) is c)

ended_store : (command : SyncCommand) (ending : Ending) (old new : Outside) → Syncs command ending old new → ending ≡ Failed trouble.Store → Rose old.store_faults new.store_faults
ended_store command ending old new (undialled what e l a h f) is =
    (subst (λ t. Loads command.file (Err t) old.held new.held old.store_faults new.store_faults) (same_trouble what trouble.Store (sym e ∙ is)) l).1
ended_store command ending old new (dialled d what s r c) is = closes_store command.file what old new (subst (λ x. Closes command.file what x old new) is c)

-- a sync itself doesn't end by its line
closes_printed : (file : List ℕ) (what : Came) (old new : Outside) → Closes file what Unprinted old new → ⊥
closes_printed file (came.Done d s) old new c = c
closes_printed file (came.Stop f) old new c = c
closes_printed file came.Wire old new c = c
closes_printed file came.Memory old new c = c

syncs_printed : (command : SyncCommand) (old new : Outside) → Syncs command Unprinted old new → ⊥
syncs_printed command old new (undialled what e l a h f) = cc
syncs_printed command old new (dialled d what s r c) = closes_printed command.file what old new c

-- so it hasn't the status 10
below_ten : (command : SyncCommand) (ending : Ending) (old new : Outside) → Syncs command ending old new → status_of ending ≡ 10 → ⊥
below_ten command (Synced s) old new h e = omega arith
below_ten command OtherWords old new h e = omega arith
below_ten command (Stopped f) old new h e = stop_below f e
  where
    size : (o : Option ℕ) → status_of_size o ≡ 10 → ⊥
    size (Some n) q = omega arith
    size None q = omega arith

    stop_below : (g : SyncFault) → status_of_stop g ≡ 10 → ⊥
    stop_below (fault.Refused status id) q = omega arith
    stop_below (fault.Changing a b c d) q = omega arith
    stop_below (fault.Plan p) q = size (too_large p) q
    stop_below (fault.BadReply n) q = omega arith
    stop_below fault.Memory q = omega arith
below_ten command (Failed trouble.Wire) old new h e = omega arith
below_ten command (Failed trouble.Device) old new h e = omega arith
below_ten command (Failed trouble.Store) old new h e = omega arith
below_ten command (Failed trouble.Memory) old new h e = omega arith
below_ten command Unprinted old new h e = syncs_printed command old new h

-- the status of a run whose end is this one
status_is : (result ending : Ending) (n : ℕ) → result ≡ ending → status_of result ≡ n → status_of ending ≡ n
status_is result ending n is e = sym (ap status_of is) ∙ e

pub causes_of : (words : List (List ℕ)) (result : Ending) (old new : Outside) (a b : Meanings) → Runs words result old new a b → Causes (status_of result) old new a b
causes_of words result old new a b (syncs command ending asks s (inl p)) = record {
  wire = λ e. ended_wire command ending old new s (is_wire ending (status_is result ending 2 p.0 e));
  store = λ e. ended_store command ending old new s (is_store ending (status_is result ending 7 p.0 e));
  printing = λ e. absurd (below_ten command ending old new s (status_is result ending 10 p.0 e));
}
causes_of words result old new a b (syncs command ending asks s (inr p)) = record {
  wire = λ e. absurd (let q : 10 ≡ 2 = status_is result Unprinted 2 p.0 e in omega arith);
  store = λ e. absurd (let q : 10 ≡ 7 = status_is result Unprinted 7 p.0 e in omega arith);
  printing = λ e. p.1;
}
causes_of words result old new a b (asks_nothing asks is s w) = record {
  wire = λ e. absurd (let q : 1 ≡ 2 = status_is result OtherWords 2 is e in omega arith);
  store = λ e. absurd (let q : 1 ≡ 7 = status_is result OtherWords 7 is e in omega arith);
  printing = λ e. absurd (let q : 1 ≡ 10 = status_is result OtherWords 10 is e in omega arith);
}
causes_of words result old new a b (out_of_memory s (inl p)) = record {
  wire = λ e. absurd (let q : 8 ≡ 2 = status_is result (Failed trouble.Memory) 2 p.0 e in omega arith);
  store = λ e. absurd (let q : 8 ≡ 7 = status_is result (Failed trouble.Memory) 7 p.0 e in omega arith);
  printing = λ e. absurd (let q : 8 ≡ 10 = status_is result (Failed trouble.Memory) 10 p.0 e in omega arith);
}
causes_of words result old new a b (out_of_memory s (inr p)) = record {
  wire = λ e. absurd (let q : 10 ≡ 2 = status_is result Unprinted 2 p.0 e in omega arith);
  store = λ e. absurd (let q : 10 ≡ 7 = status_is result Unprinted 7 p.0 e in omega arith);
  printing = λ e. p.1;
}
