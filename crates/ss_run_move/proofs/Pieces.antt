-- Reads of a dump's text, one behind the other.
use Rattle.std.proofs.Common.{◌≡◌, ◌≤◌, ◌<◌, ◌+◌, ℕ, List, ◌++◌, length, ap, subst, arith, length-append}
use Rattle.ss_outside.specs.Told.{Meanings}
use Rattle.ss_outside.specs.Causes.{Rose}
use Rattle.ss_outside.proofs.Telling.{HasRead-append}
use Rattle.ss_input.specs.Inputs.{Gets, IsPart}
use Rattle.ss_input.proofs.Pieces.{gets_more, part_append}
use Rattle.ss_run_move.specs.declared.endings.Ending.{Ending}
use Rattle.ss_run_move.specs.declared.endings.Ending.TheVariants.{Done, OtherWords, Site, Keeper, Output, Damaged}
use Rattle.ss_run_move.specs.declared.endings.Ending.TheVariants.{NoAccount, NotFresh, NoDump, TooLong, Input, Memory}
use Rattle.ss_run_move.specs.Inputs.{IsUnread, IsWhole, most_bytes}

longer : (s t : List ℕ) → most_bytes < length t → most_bytes < length (s ++ t)
longer s t h = let l : length (s ++ t) ≡ length s + length t = length-append s t in omega arith

-- what was read before makes no difference to the cause
pub unread_later : (s : List ℕ) (ending : Ending) (a b c : Meanings) → IsPart s a b → IsUnread ending b c → IsUnread ending a c
unread_later s Input a b c p u = (s ++ u.0, HasRead-append s u.0 a b c p.read u.1, subst (λ n. Rose n c.read_faults) p.faultless u.2)
unread_later s TooLong a b c p u = (s ++ u.0, part_append s u.0 a b c p u.1, longer s u.0 u.2)
unread_later s Memory a b c p u = (s ++ u.0, part_append s u.0 a b c p u.1)
unread_later s Done a b c p u = absurd u
unread_later s OtherWords a b c p u = absurd u
unread_later s Site a b c p u = absurd u
unread_later s Damaged a b c p u = absurd u
unread_later s Keeper a b c p u = absurd u
unread_later s Output a b c p u = absurd u
unread_later s (NoAccount fault) a b c p u = absurd u
unread_later s NotFresh a b c p u = absurd u
unread_later s (NoDump fault) a b c p u = absurd u

-- at the input's end all was read
pub all_got : (t u : List ℕ) (n : ℕ) (a b c : Meanings) → IsPart t a b → Gets t u n b c → n ≡ 0 → length t ≤ most_bytes → IsWhole u a c
all_got t u n a b c p g z few =
    let m = gets_more t u n a b c p g in
    let l : length (t ++ g.got) ≡ length t + length g.got = length-append t g.got in
    let k : length u ≡ length (t ++ g.got) = ap length g.text_is in
    let i = g.count_is in
    record { read = m.read; ended = g.ended z; few = omega arith; faultless = m.faultless }
