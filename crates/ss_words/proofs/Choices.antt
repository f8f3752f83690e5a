-- Choices that gave something, and tests.
use Rattle.std.specs.Prelude.{◌≡◌, Bool, true, false, cond, Option, Some, None, option_and_then, refl}

-- a choice between something and nothing that gave something passed its test
pub chosen : {X : Type 0} (b : Bool) (o : Option X) (x : X) → cond b o None ≡ Some x → (b ≡ true) × (o ≡ Some x)
chosen true o x e = (refl, e)
chosen false o x e = cc

-- what follows something that was there
pub followed : {X Y : Type 0} (o : Option X) (f : X → Option Y) (y : Y) → option_and_then f o ≡ Some y → (x : X) × (o ≡ Some x) × (f x ≡ Some y)
followed None f y e = cc
followed (Some x) f y e = (x, refl, e)
