-- Keepers and ports that are out, and those that came back.
use Rattle.std.specs.Prelude.{◌≡◌, ◌≤◌, ◌+◌, ◌-◌, ◌^◌, ℕ, min, refl}
use Rattle.std.proofs.Common.{sym, ap, subst, ◌∙◌, arith}
use Rattle.ss_links.specs.Counts.{RoseBy}
use Rattle.ss_site.specs.Sites.{IsBack, GivesOneMore, LentParts}
use Rattle.ss_run_serve.specs.Lending.{AllAreBack, AreOut, HaveComeBack}
use Rattle.ss_run_serve.proofs.Rising.{rose_then}

none_rose : (a b : ℕ) → b ≡ a → RoseBy 0 a b
none_rose a b same = record { later = omega (arith, same); risen = omega (arith, same); most = omega (arith, same) }

-- as many rose as two equal numbers say
rose_as : (n m a b : ℕ) → n ≡ m → RoseBy n a b → RoseBy m a b
rose_as n m a b same rose = subst (λ (k : ℕ). RoseBy k a b) same rose

pub none_out : (old new : LentParts) → new ≡ old → AllAreBack old new
none_out old new same = record { returned = 0; given = none_rose old.given new.given (ap (λ (l : LentParts). l.given) same); back = none_rose old.back new.back (ap (λ (l : LentParts). l.back) same) }

-- one was given
pub one_out : (old new : LentParts) → GivesOneMore old new → AreOut 1 old new
one_out old new lent = record { returned = 0; given = lent.given; back = none_rose old.back new.back lent.back }

-- and it came back
pub one_back : (old mid new : LentParts) → AreOut 1 old mid → IsBack mid new → AllAreBack old new
one_back old mid new out back = record {
  returned = out.returned + 1;
  given = subst (λ (g : ℕ). RoseBy (0 + (out.returned + 1)) old.given g) (sym back.given) (rose_as (1 + out.returned) (0 + (out.returned + 1)) old.given mid.given (omega arith) out.given);
  back = rose_then out.returned 1 old.back mid.back new.back out.back back.back;
}

-- all that were out came back
pub all_back : (n : ℕ) (old mid new : LentParts) → AreOut n old mid → HaveComeBack n mid new → AllAreBack old new
all_back n old mid new out back = record {
  returned = out.returned + n;
  given = subst (λ (g : ℕ). RoseBy (0 + (out.returned + n)) old.given g) (sym back.given) (rose_as (n + out.returned) (0 + (out.returned + n)) old.given mid.given (omega arith) out.given);
  back = rose_then out.returned n old.back mid.back new.back out.back back.back;
}

-- those that were out are, and so many more
pub out_then : (n m : ℕ) (old mid new : LentParts) → AreOut n old mid → AreOut m mid new → AreOut (n + m) old new
out_then n m old mid new first then = record {
  returned = first.returned + then.returned;
  given = rose_as ((n + first.returned) + (m + then.returned)) ((n + m) + (first.returned + then.returned)) old.given new.given (omega arith) (rose_then (n + first.returned) (m + then.returned) old.given mid.given new.given first.given then.given);
  back = rose_then first.returned then.returned old.back mid.back new.back first.back then.back;
}

pub out_as : (n m : ℕ) (old new : LentParts) → n ≡ m → AreOut n old new → AreOut m old new
out_as n m old new same out = subst (λ (k : ℕ). AreOut k old new) same out

pub none_back : (old : LentParts) → HaveComeBack 0 old old
none_back old = record { given = refl; back = none_rose old.back old.back refl; addresses = refl; keepers = refl }

pub back_more : (n : ℕ) (old mid new : LentParts) → HaveComeBack n old mid → IsBack mid new → HaveComeBack (n + 1) old new
back_more n old mid new first then = record { given = then.given ∙ first.given; back = rose_then n 1 old.back mid.back new.back first.back then.back; addresses = then.addresses ∙ first.addresses; keepers = then.keepers ∙ first.keepers }
