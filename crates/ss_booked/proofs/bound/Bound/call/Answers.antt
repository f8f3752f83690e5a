use Rattle.std.specs.Prelude.{◌≡◌, ◌+◌, ◌<◌, length, All, Some, None}
use Rattle.std.proofs.Common.{subst, sym, ap, ◌∙◌}
use Rattle.ss_query.specs.Marks.{mark_of}
use Rattle.ss_laws.specs.declared.journal.Entry.{Entry}
use Rattle.ss_laws.specs.Journal.{Journal}
use Rattle.ss_laws.specs.Journals.{with_entry, reply_at}
use Rattle.ss_booked.specs.Book.{Book}
use Rattle.ss_booked.specs.Sizes.{full_of}
use Rattle.ss_booked.specs.Sound.{IsSound}
use Rattle.ss_booked.proofs.Entering.{Told, Stepped, told-entered, sound-entered}
use Rattle.ss_booked.proofs.bound.Bound.call.Goals as goal
use Rattle.ss_booked.proofs.bound.Bound.call.Given.{Over}

entry_of : (g : Over) (c : goal.After-enter g) → Entry
entry_of g c = record { ticket = c.args.ticket; pass = c.args.pass; now = c.args.now; request = c.args.request; mark = mark_of c.step-reply.result }

entered_is : (g : Over) (c : goal.After-enter g) → c.enter.new.self ≡ with_entry c.self.inside.journal (entry_of g c)
unfolding entry_of
entered_is g c = c.enter.ensures.entered ∙ ap (λ m. with_entry c.self.inside.journal (record { ticket = c.args.ticket; pass = c.args.pass; now = c.args.now; request = c.args.request; mark = m })) c.mark.ensures

told_is : (g : Over) (c : goal.After-enter g) → Told c.self.inside.journal (entry_of g c) c.step-reply.result c.step-reply.new.self.plain
unfolding entry_of
told_is g c =
    told-entered c.self.inside.journal (entry_of g c) c.self.inside.account.plain c.step-reply.new.self.plain c.step-reply.result c.self.invariant.legal c.self.invariant.leaves c.step-reply.ensures.account c.step-reply.ensures.reply

sound_is : (g : Over) (c : goal.After-enter g)
    → IsSound (g.K.Keeper.told c.step-reply.new.self.keeper) c.step-reply.new.self.plain c.enter.new.self (c.self.inside.bytes + c.bytes_of_request-bytes.result) (g.K.Keeper.keep_faults c.self.inside.before.value) (g.K.Keeper.keep_faults c.step-reply.new.self.keeper)
unfolding entry_of
sound_is g c =
    let journal = c.self.inside.journal in
    let entry = entry_of g c in
    let above : All (λ (e : Entry). e.ticket < c.args.ticket) journal.entries = subst (λ (b : Book _). All (λ (e : Entry). e.ticket < c.args.ticket) b.journal.entries) (sym c.self.view_is) c.requires.above in
    let none : full_of journal ≡ None = subst (λ (b : Book _). full_of b.journal ≡ None) (sym c.self.view_is) (sym c.full.ensures.full ∙ c.in_default.is) in
    let stepped : Stepped (g.K.Keeper.told c.step-reply.new.self.keeper) c.step-reply.new.self.plain entry.mark (g.K.Keeper.keep_faults c.self.inside.account.keeper) (g.K.Keeper.keep_faults c.step-reply.new.self.keeper) = record {
      valid = c.step-reply.ensures.valid;
      kept = c.step-reply.ensures.kept;
      again = c.step-reply.ensures.again;
      faults = c.step-reply.ensures.faults;
      cause = c.step-reply.ensures.cause;
    } in
    subst (λ (j : Journal). IsSound (g.K.Keeper.told c.step-reply.new.self.keeper) c.step-reply.new.self.plain j (c.self.inside.bytes + c.bytes_of_request-bytes.result) (g.K.Keeper.keep_faults c.self.inside.before.value) (g.K.Keeper.keep_faults c.step-reply.new.self.keeper)) (sym (entered_is g c))
    (sound-entered _ _ journal entry c.self.inside.account.plain c.step-reply.new.self.plain c.step-reply.result c.self.inside.bytes c.bytes_of_request-bytes.result _ _ _ c.self.invariant c.requires.fits above
    none (told_is g c) stepped c.bytes_of_request-bytes.ensures.bytes)

pub invariant_of-self : goal.invariant_of-self
invariant_of-self g c = sound_is g c

pub returns-clause-reply : goal.returns-clause-reply
unfolding entry_of
returns-clause-reply g c =
    subst (λ (b : Book _). reply_at c.enter.new.self (length b.journal.entries) ≡ Some c.step-reply.result) c.self.view_is
    (subst (λ (j : Journal). reply_at j (length c.self.inside.journal.entries) ≡ Some c.step-reply.result) (sym (entered_is g c)) (told_is g c).answered)

pub returns-clause-legal : goal.returns-clause-legal
returns-clause-legal g c = (sound_is g c).legal

pub returns-clause-roomy : goal.returns-clause-roomy
returns-clause-roomy g c = (sound_is g c).had_room
