-- A status that has a reason has three digits.
use Rattle.std.proofs.Common.{◌≡◌, ℕ, ◌<◌, ◌≤◌, ◌==◌, Bool, true, false, List, [], cond, length, codes, refl, arith}
use Rattle.std.proofs.lemmas.Bool.{eqb-true}
use Rattle.ss_route.specs.Wire.{HasReason}

-- this status, or another one
one_of : (b : Bool) (status n : ℕ) (text rest : List ℕ) → (b ≡ true → status ≡ n) → (100 ≤ n) × (n < 1000)
    → (0 < length rest → (100 ≤ status) × (status < 1000)) → 0 < length (cond b text rest) → (100 ≤ status) × (status < 1000)
one_of true status n text rest same range other has = let e : status ≡ n = same refl in (omega (arith, range.0), omega (arith, range.1))
one_of false status n text rest same range other has = other has

is : (status n : ℕ) (text rest : List ℕ) → (100 ≤ n) × (n < 1000) → (0 < length rest → (100 ≤ status) × (status < 1000))
    → 0 < length (cond (status == n) text rest) → (100 ≤ status) × (status < 1000)
is status n text rest range other = one_of (status == n) status n text rest (eqb-true status n) range other

pub three_digits : (status : ℕ) → HasReason status → (100 ≤ status) × (status < 1000)
three_digits status =
    is status 200 (codes "OK") _ (omega arith, omega arith)
    (is status 202 (codes "Accepted") _ (omega arith, omega arith)
    (is status 304 (codes "Not Modified") _ (omega arith, omega arith)
    (is status 400 (codes "Bad Request") _ (omega arith, omega arith)
    (is status 401 (codes "Unauthorized") _ (omega arith, omega arith)
    (is status 403 (codes "Forbidden") _ (omega arith, omega arith)
    (is status 404 (codes "Not Found") _ (omega arith, omega arith)
    (is status 405 (codes "Method Not Allowed") _ (omega arith, omega arith)
    (is status 411 (codes "Length Required") _ (omega arith, omega arith)
    (is status 412 (codes "Precondition Failed") _ (omega arith, omega arith)
    (is status 413 (codes "Content Too Large") _ (omega arith, omega arith)
    (is status 415 (codes "Unsupported Media Type") _ (omega arith, omega arith)
    (is status 503 (codes "Service Unavailable") _ (omega arith, omega arith)
    (is status 507 (codes "Insufficient Storage") [] (omega arith, omega arith)
    (λ none. let never : ⊥ = omega arith in absurd never))))))))))))))
