-- Reads one behind the other.
use Rattle.std.proofs.Common.{◌≡◌, ◌≤◌, ◌<◌, ◌+◌, ℕ, List, [], ◌++◌, ◌-◌, length, take, drop, min, refl, sym, ap, ◌∙◌}
use Rattle.std.proofs.Common.{subst, arith, length-append, length-drop, length-take}
use Rattle.ss_outside.specs.Told.{Meanings}
use Rattle.ss_outside.specs.Causes.{Rose}
use Rattle.ss_outside.proofs.Telling.{HasRead-append, HasRead-none}
use Rattle.ss_input.specs.declared.faults.InputFault.{InputFault}
use Rattle.ss_input.specs.declared.faults.InputFault.TheVariants.{Failed, TooLong, Memory}
use Rattle.ss_input.specs.Inputs.{Gets, IsPart, IsUnread, IsWhole, most}

pub part_none : (a : Meanings) → IsPart [] a a
part_none a = record { read = HasRead-none a; faultless = refl }

pub part_append : (s t : List ℕ) (a b c : Meanings) → IsPart s a b → IsPart t b c → IsPart (s ++ t) a c
part_append s t a b c p q = record { read = HasRead-append s t a b c p.read q.read; faultless = q.faultless ∙ p.faultless }

longer : (s t : List ℕ) → most < length t → most < length (s ++ t)
longer s t h = let l : length (s ++ t) ≡ length s + length t = length-append s t in omega arith

-- what was read before makes no difference to the cause
pub unread_later : (s : List ℕ) (fault : InputFault) (a b c : Meanings) → IsPart s a b → IsUnread fault b c → IsUnread fault a c
unread_later s Failed a b c p u = (s ++ u.0, HasRead-append s u.0 a b c p.read u.1, subst (λ n. Rose n c.read_faults) p.faultless u.2)
unread_later s TooLong a b c p u = (s ++ u.0, part_append s u.0 a b c p u.1, longer s u.0 u.2)
unread_later s Memory a b c p u = (s ++ u.0, part_append s u.0 a b c p u.1)

pub gets_more : (t u : List ℕ) (n : ℕ) (a b c : Meanings) → IsPart t a b → Gets t u n b c → IsPart u a c
gets_more t u n a b c p g = subst (λ x. IsPart x a c) (sym g.text_is) (part_append t g.got a b c p g.part)

-- at the input's end all was read
pub all_got : (t u : List ℕ) (n : ℕ) (a b c : Meanings) → IsPart t a b → Gets t u n b c → n ≡ 0 → length t ≤ most → IsWhole u a c
all_got t u n a b c p g z few =
    let m = gets_more t u n a b c p g in
    let l : length (t ++ g.got) ≡ length t + length g.got = length-append t g.got in
    let k : length u ≡ length (t ++ g.got) = ap length g.text_is in
    let i = g.count_is in
    record { read = m.read; ended = g.ended z; few = omega arith; faultless = m.faultless }

-- each read makes the text longer
pub grows : (t u : List ℕ) (n : ℕ) (b c : Meanings) → Gets t u n b c → length u ≡ length t + n
grows t u n b c g =
    let l : length (t ++ g.got) ≡ length t + length g.got = length-append t g.got in
    let k : length u ≡ length (t ++ g.got) = ap length g.text_is in
    let i = g.count_is in
    omega arith

-- a piece that was read to is as long as before
pub as_long : (n m : ℕ) (a b : List ℕ) → length a ≡ length b → n ≡ length b → length b ≡ m → length (take n (a ++ drop (length a) b)) ≡ m
as_long n m a b h k l =
    let t : length (take n (a ++ drop (length a) b)) ≡ min n (length (a ++ drop (length a) b)) = length-take n (a ++ drop (length a) b) in
    let p : length (a ++ drop (length a) b) ≡ length a + length (drop (length a) b) = length-append a (drop (length a) b) in
    let d : length (drop (length a) b) ≡ length b - length a = length-drop (length a) b in
    omega arith
