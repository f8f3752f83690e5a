-- The host that requests name is one.
use Rattle.std.proofs.Common.{◌≡◌, ℕ, ◌<◌, ◌≤◌, List, ◌++◌, length, Bool, true, false, cond, ◌&&◌, ◌==◌, codes, decimal}
use Rattle.std.proofs.Common.{slice_index_or, length-append, refl, ap₂, append_assoc, ◌∙◌, arith, lit<}
use Rattle.std.specs.List.{list_all}
use Rattle.std.specs.Char.{is_ascii_digit}
use Rattle.std.proofs.lemmas.Bool.Decides.{nat_tests}
use Rattle.std.proofs.lemmas.List.Folds.{list_all-append}
use Rattle.std.proofs.lemmas.List.Sums.{AllPass-from_list_all, list_all-from_AllPass}
use Rattle.std.proofs.lemmas.Fmt.{length-decimal-le}
use Rattle.ss_http.specs.Requests.{is_host_byte}
use Rattle.ss_route.specs.Sending.{IsHost}
use Rattle.ss_words.specs.declared.urls.Server.{Server}
use Rattle.ss_words.specs.Urls.{HasHost}
use Rattle.ss_run_sync.specs.Naming.{host_named}
use Rattle.ss_text.proofs.StampTexts.{decimal_digits}

digit_is_visible : (b : ℕ) → is_ascii_digit b ≡ true → is_host_byte b ≡ true
digit_is_visible b e = grind (arith, nat_tests, e)

with_port : (host digits : List ℕ) → list_all is_host_byte host ≡ true → list_all is_host_byte digits ≡ true → list_all is_host_byte (host ++ codes ":" ++ digits) ≡ true
with_port host digits h d =
    list_all-append is_host_byte (host ++ codes ":") digits ∙ ap₂ (λ a b. a && b) (list_all-append is_host_byte host (codes ":") ∙ ap₂ (λ a b. a && b) h refl) d

pub named_host : (server : Server) → HasHost server → server.port < 65536 → IsHost (host_named server)
named_host server h port = go (server.port == 80)
  where
    size : length (decimal server.port) ≤ 5
    size = length-decimal-le 5 server.port (lit< tt) (omega arith) (omega arith)

    digits : list_all is_host_byte (decimal server.port) ≡ true
    digits = list_all-from_AllPass is_host_byte (decimal server.port) (λ k d h. digit_is_visible (slice_index_or (decimal server.port) k d) (AllPass-from_list_all is_ascii_digit (decimal server.port) (decimal_digits server.port (omega arith)) k d h))

    go : (b : Bool) → IsHost (cond b server.host (server.host ++ codes ":" ++ decimal server.port))
    go true = (h.some, omega (arith, h.most), h.visible)
    go false = (
      omega (arith, h.some, length-append (server.host ++ codes ":") (decimal server.port), length-append server.host (codes ":")),
      omega (arith, h.most, size, length-append (server.host ++ codes ":") (decimal server.port), length-append server.host (codes ":")),
      with_port server.host (decimal server.port) h.visible digits,
    )

-- the host of a port that isn't the default one
pub named_else : (server : Server) → (server.port ≡ 80 → ⊥) → host_named server ≡ server.host ++ (codes ":" ++ decimal server.port)
named_else server other = go (server.port == 80) refl
  where
    go : (b : Bool) → (server.port == 80) ≡ b → cond b server.host (server.host ++ codes ":" ++ decimal server.port) ≡ server.host ++ (codes ":" ++ decimal server.port)
    go true t = absurd (other (grind (arith, nat_tests, t)))
    go false t = append_assoc server.host (codes ":") (decimal server.port)
