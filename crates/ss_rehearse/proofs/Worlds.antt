-- Events lead worlds that are told alike to such worlds.
use Rattle.std.proofs.Common.{◌≡◌, ℕ, zero, suc, ◌<◌, ◌==◌, List, [], ◌∷◌, length, set, length-set, slice_get, not}
use Rattle.std.proofs.Common.{Option, Some, None, option_map, unwrap_or, refl, sym, ap, ap₂, subst, ◌∙◌, arith}
use Rattle.std.specs.Prelude.{MatchOption, ⊤}
use Rattle.ss_bso.specs.Validity.{IsValid, SameAccount}
use Rattle.ss_bso.proofs.Reordering.{same-back, same-through}
use Rattle.ss_query.specs.declared.requests.Request.{Request}
use Rattle.ss_query.specs.Api.{api}
use Rattle.ss_laws.proofs.SameApi.{order_law}
use Rattle.ss_tree.specs.declared.entries.Entry.{Entry}
use Rattle.ss_tree.proofs.Valid.{valid_tree}
use Rattle.ss_sync.specs.Rows.{ids_of}
use Rattle.ss_hearing.specs.declared.answer.Answer.{Answer}
use Rattle.ss_device.specs.Device.{DeviceView}
use Rattle.ss_device.specs.declared.faults.EditFault.{EditFault}
use Rattle.ss_device.proofs.Known.{by_id_apart}
use Rattle.ss_client.specs.declared.summaries.Fetch.{Fetch}
use Rattle.ss_client.specs.declared.summaries.Fetch.TheVariants.{Newer, Whole}
use Rattle.ss_client.specs.declared.runs.Stage.TheVariants.{Asks as AsksStage}
use Rattle.ss_client.specs.Asking.{ask, awaits}
use Rattle.ss_client.specs.Machine.{Next, Send, Done, Stop, Follows}
use Rattle.ss_client.specs.Runs.{MachineView, first_run, is_newer}
use Rattle.ss_serving.specs.Asking.{told_by}
use Rattle.ss_serving.specs.Bookmarks.{Server}
use Rattle.ss_world.specs.declared.events.Edit.{Edit}
use Rattle.ss_world.specs.declared.events.Event.TheVariants.{Change, Deliver, Start}
use Rattle.ss_world.specs.declared.seats.Seat.{Seat}
use Rattle.ss_world.specs.declared.seats.Seat.TheVariants.{Idle, Syncs}
use Rattle.ss_world.specs.Seats.{after, device_of}
use Rattle.ss_world.specs.Worlds.{WorldView, world_with_seat}
use Rattle.ss_world.specs.Happening.{At, Delivers, DeliversAtSeat, Edits, EditsAtSeat, Happens, Starts, edit_fault}
use Rattle.ss_rehearse.specs.Alike.{AreEditedAlike}
use Rattle.ss_rehearse.specs.Rehearsals.{tree_at}
use Rattle.ss_rehearse.proofs.Editing.{edited_alike}
use Rattle.ss_rehearse.proofs.Machines.{AreMachines, AreNext, AreOneTree, AreDevices, ask_alike, awaits_alike}
use Rattle.ss_rehearse.proofs.Machines.{follows_alike}

-- ---- what is told alike

-- both are idle with devices that are told alike, or sync alike
abbrev pub AreSeats : Seat → Seat → Type 0
AreSeats (Idle d) (Idle e) = AreDevices d e
AreSeats (Syncs m) (Syncs n) = AreMachines m n
AreSeats s t = ⊥

abbrev pub AreAt : Option Seat → Option Seat → Type 0
AreAt None None = ⊤
AreAt (Some s) (Some t) = AreSeats s t
AreAt o p = ⊥

-- the same account, whatever the order of its lists, and as many seats, each told alike
pub record AreWorlds (w v : WorldView) : Type 0 where
  pub valid : IsValid w.server.account
  pub accounts : SameAccount w.server.account v.server.account
  pub two : length w.seats ≡ 2
  pub seats : (n : ℕ) → AreAt (slice_get w.seats n) (slice_get v.seats n)

-- ---- a seat

seats_set : (xs ys : List Seat) (n : ℕ) (s t : Seat) → ((k : ℕ) → AreAt (slice_get xs k) (slice_get ys k)) → AreSeats s t → (k : ℕ) → AreAt (slice_get (set xs n s) k) (slice_get (set ys n t) k)
seats_set [] [] n s t each alike k = tt
seats_set [] (y ∷ ys) n s t each alike k = absurd (each 0)
seats_set (x ∷ xs) [] n s t each alike k = absurd (each 0)
seats_set (x ∷ xs) (y ∷ ys) zero s t each alike zero = alike
seats_set (x ∷ xs) (y ∷ ys) zero s t each alike (suc k) = each (suc k)
seats_set (x ∷ xs) (y ∷ ys) (suc n) s t each alike zero = each 0
seats_set (x ∷ xs) (y ∷ ys) (suc n) s t each alike (suc k) = seats_set xs ys n s t (λ j. each (suc j)) alike k

module _ (w v : WorldView) (a : AreWorlds w v) (n : ℕ) where
  -- another seat and another server, both alike
  with_seats : (server other : Server) (s t : Seat) → IsValid server.account → SameAccount server.account other.account → AreSeats s t → AreWorlds (world_with_seat w server n s) (world_with_seat v other n t)
  with_seats server other s t valid same alike = record { valid = valid; accounts = same; two = length-set w.seats n s ∙ a.two; seats = seats_set w.seats v.seats n s t a.seats alike }

  with_devices : (s t : Seat) → AreSeats s t → AreWorlds (world_with_seat w w.server n s) (world_with_seat v v.server n t)
  with_devices s t alike = with_seats w.server v.server s t a.valid a.accounts alike

  -- what becomes of both
  become : (p it q that : WorldView) → p ≡ it → q ≡ that → AreWorlds it that → AreWorlds p q
  become p it q that e f h = subst (λ x. AreWorlds x q) (sym e) (subst (AreWorlds it) (sym f) h)

  -- at a seat of both, or where there is none
  at_both : (p q : WorldView) (P Q : Seat → Type 0) → ((s t : Seat) → AreSeats s t → P s → Q t → AreWorlds p q) → At w n p P → At v n q Q → AreWorlds p q
  at_both p q P Q by h k = go (slice_get w.seats n) (slice_get v.seats n) (a.seats n) h k
    where
      go : (o r : Option Seat) → AreAt o r → MatchOption o (p ≡ w) P → MatchOption r (q ≡ v) Q → AreWorlds p q
      go None None alike e f = become p w q v e f a
      go (Some s) (Some t) alike e f = by s t alike e f
      go o r alike e f = absurd alike

  -- ---- a sync begins

  pub started_alike : (fetch : Fetch) (p q : WorldView) → Happens w (Start n fetch) p → Happens v (Start n fetch) q → AreWorlds p q
  started_alike fetch p q h k = at_both p q (Starts w n fetch p) (Starts v n fetch q) by h k
    where
      newer : (f : Fetch) (d e : DeviceView) → d.stamp ≡ e.stamp → is_newer d f ≡ is_newer e f
      newer Newer d e same = ap (λ (k : ℕ). not (k == 0)) same
      newer Whole d e same = refl

      by : (s t : Seat) → AreSeats s t → Starts w n fetch p s → Starts v n fetch q t → AreWorlds p q
      by (Idle d) (Idle e) alike f g =
          let one : MachineView = record { device = d; run = first_run (is_newer d fetch); stage = AsksStage } in
          let other : MachineView = record { device = e; run = first_run (is_newer e fetch); stage = AsksStage } in
          become p (world_with_seat w w.server n (Syncs one)) q (world_with_seat v v.server n (Syncs other)) f g
          (with_devices (Syncs one) (Syncs other) (record { devices = alike; runs = ap first_run (newer fetch d e alike.alike.stamp); stages = tt }))
      by (Syncs m) (Syncs o) alike f g = become p w q v f g a
      by s t alike f g = absurd alike

  -- ---- an edit

  pub changed_alike : (now : ℕ) (edit : Edit) (p q : WorldView) → Happens w (Change n now edit) p → Happens v (Change n now edit) q → AreWorlds p q
  changed_alike now edit p q h k = at_both p q (EditsAtSeat w n now edit p) (EditsAtSeat v n now edit q) by h k
    where
      edits : (d e : DeviceView) → AreDevices d e → MatchOption (edit_fault d edit) (Edits w n now edit d p) (λ f. p ≡ w) → MatchOption (edit_fault e edit) (Edits v n now edit e q) (λ f. q ≡ v) → AreWorlds p q
      edits d e t f g =
          let x : AreEditedAlike now edit d e = edited_alike now edit d e (valid_tree d.tree t.one) (valid_tree e.tree t.other) t.alike in
          go x (edit_fault d edit) f (subst (λ o. MatchOption o (Edits v n now edit e q) (λ f. q ≡ v)) (sym x.refused) g)
        where
          go : AreEditedAlike now edit d e → (o : Option EditFault) → MatchOption o (Edits w n now edit d p) (λ f. p ≡ w) → MatchOption o (Edits v n now edit e q) (λ f. q ≡ v) → AreWorlds p q
          go x (Some fault) f g = become p w q v f g a
          go x None f g =
              become p (world_with_seat w w.server n (Idle f.device)) q (world_with_seat v v.server n (Idle g.device)) f.is g.is
              (with_devices (Idle f.device) (Idle g.device) (record {
                alike = x.changed f.device g.device f.changed g.changed;
                one = f.is_tree;
                other = g.is_tree;
                apart = by_id_apart (ids_of f.device.mirror) f.valid.mirror_by_id;
              }))

      by : (s t : Seat) → AreSeats s t → EditsAtSeat w n now edit p s → EditsAtSeat v n now edit q t → AreWorlds p q
      by (Idle d) (Idle e) alike f g = edits d e alike f g
      by (Syncs m) (Syncs o) alike f g = become p w q v f g a
      by s t alike f g = absurd alike

  -- ---- a request

  pub delivered_alike : (now : ℕ) (p q : WorldView) → Happens w (Deliver n now) p → Happens v (Deliver n now) q → AreWorlds p q
  delivered_alike now p q h k = at_both p q (DeliversAtSeat w n now p) (DeliversAtSeat v n now q) by h k
    where
      seat_after : (m o : MachineView) (next more : Next) → AreMachines m o → AreNext next more → AreSeats (after m next) (after o more)
      seat_after m o (Send run s) (Send other t) machines alike = record { devices = machines.devices; runs = alike.0; stages = alike.1 }
      seat_after m o (Done d summary) (Done e other) machines alike = alike
      seat_after m o (Stop f) (Stop g) machines alike = machines.devices
      seat_after m o next more machines alike = absurd alike

      delivers : (m o : MachineView) → AreMachines m o → Delivers w n now m p → Delivers v n now o q → AreWorlds p q
      delivers m o x f g =
          let asks : ask m ≡ ask o = ask_alike m o x in
          let law = order_law w.server.account v.server.account now (ask m) a.valid a.accounts in
          let outcome = subst (λ (r : Request). SameAccount (api v.server.account now r).account g.server.account) (sym asks) g.answers.account in
          let servers : SameAccount f.server.account g.server.account =
          same-through f.server.account (api w.server.account now (ask m)).account g.server.account (same-back (api w.server.account now (ask m)).account f.server.account f.answers.account)
          (same-through (api w.server.account now (ask m)).account (api v.server.account now (ask m)).account g.server.account law.account outcome) in
          let replies : (api w.server.account now (ask m)).reply ≡ (api v.server.account now (ask o)).reply = law.reply ∙ ap (λ (r : Request). (api v.server.account now r).reply) asks in
          let answers : told_by (awaits m.stage) (api w.server.account now (ask m)).reply ≡ told_by (awaits o.stage) (api v.server.account now (ask o)).reply = ap₂ told_by (awaits_alike m.stage o.stage x.stages) replies in
          let heard = subst (λ (y : Answer). Follows o.device m.run o.stage y g.next) (sym answers) (subst (λ run. Follows o.device run o.stage (told_by (awaits o.stage) (api v.server.account now (ask o)).reply) g.next) (sym x.runs) g.follows) in
          let next : AreNext f.next g.next = follows_alike m.device o.device m.run m.stage o.stage (told_by (awaits m.stage) (api w.server.account now (ask m)).reply) f.next g.next x.devices x.stages f.follows heard in
          become p (world_with_seat w f.server n (after m f.next)) q (world_with_seat v g.server n (after o g.next)) f.is g.is
          (with_seats f.server g.server (after m f.next) (after o g.next) f.answers.valid servers (seat_after m o f.next g.next x next))

      by : (s t : Seat) → AreSeats s t → DeliversAtSeat w n now p s → DeliversAtSeat v n now q t → AreWorlds p q
      by (Idle d) (Idle e) alike f g = become p w q v f g a
      by (Syncs m) (Syncs o) alike f g = delivers m o alike f g
      by s t alike f g = absurd alike

-- ---- the trees

there : (xs : List Seat) (k : ℕ) → k < length xs → slice_get xs k ≡ None → ⊥
there [] k l q = omega (arith, l)
there (s ∷ xs) zero l q = cc
there (s ∷ xs) (suc k) l q = there xs k (let z : k < length xs = omega (arith, l) in z) q

tree_in : Option Seat → List Entry
tree_in o = unwrap_or (option_map (λ s. (device_of s).tree) o) []

pub trees_alike : (w v : WorldView) → AreWorlds w v → (n : ℕ) → n < 2 → AreOneTree (tree_at n w) (tree_at n v)
unfolding tree_in
trees_alike w v a n low = go (slice_get w.seats n) (slice_get v.seats n) (there w.seats n (let two : length w.seats ≡ 2 = a.two in omega arith)) (a.seats n)
  where
    devices : (s t : Seat) → AreSeats s t → AreOneTree (device_of s).tree (device_of t).tree
    devices (Idle d) (Idle e) h = record { same = h.alike.tree; one = h.one; other = h.other }
    devices (Syncs m) (Syncs o) h = record { same = h.devices.alike.tree; one = h.devices.one; other = h.devices.other }
    devices s t h = absurd h

    go : (o r : Option Seat) → (o ≡ None → ⊥) → AreAt o r → AreOneTree (tree_in o) (tree_in r)
    go None r some alike = absurd (some refl)
    go (Some s) (Some t) some alike = devices s t alike
    go (Some s) None some alike = absurd alike
