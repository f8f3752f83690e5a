-- Courses, one behind the other.
use Rattle.std.proofs.Common.{◌≡◌, ℕ, List, [], ◌∷◌, ◌++◌, ap, ◌∙◌, subst, append_assoc}
use Rattle.std.proofs.lemmas.Grind.{flat_map-append}
use Rattle.ss_device.specs.Device.{DeviceView}
use Rattle.ss_client.specs.Machine.{Next}
use Rattle.ss_run_sync.specs.Course.{Account, Exchange, request_at, requests, responses, IsCourse}

pub course_then : (d : DeviceView) (a : Next) (xs : List Exchange) (b : Next) (ys : List Exchange) (c : Next) → IsCourse d a xs b → IsCourse d b ys c → IsCourse d a (xs ++ ys) c
course_then d a [] b ys c e h = subst (λ n. IsCourse d n ys c) e h
course_then d a (x ∷ xs) b ys c r h = (r.0, r.1, r.2, r.3, course_then d r.2 xs b ys c r.4 h)

-- the requests and responses of two lists of exchanges, and what was written and taken behind them
pub requests_then : (account : Account) (d : DeviceView) (xs ys : List Exchange) (more : List ℕ)
    → requests account d (xs ++ ys) ++ more ≡ requests account d xs ++ (requests account d ys ++ more)
requests_then account d xs ys more =
    ap (λ t. t ++ more) (flat_map-append (λ x. request_at account d x.run x.stage) xs ys) ∙ append_assoc (requests account d xs) (requests account d ys) more

pub responses_then : (xs ys : List Exchange) (more : List ℕ) → responses (xs ++ ys) ++ more ≡ responses xs ++ (responses ys ++ more)
responses_then xs ys more = ap (λ t. t ++ more) (flat_map-append (λ x. x.bytes) xs ys) ∙ append_assoc (responses xs) (responses ys) more
