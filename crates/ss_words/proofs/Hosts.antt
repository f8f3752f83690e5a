-- The host of a URL has visible bytes alone.
use Rattle.std.proofs.Common.{◌≡◌, ℕ, ◌<◌, ◌≤◌, List, ◌++◌, length, Bool, true, false, cond, not, Option, Some, None}
use Rattle.std.proofs.Common.{option_map, codes, decimal, refl, sym, ap, ◌∙◌, subst, arith, length-append}
use Rattle.std.specs.Prelude.{MatchOption}
use Rattle.std.specs.List.{All, list_all}
use Rattle.std.specs.Net.Addr.{ipv4_octets}
use Rattle.std.proofs.lemmas.List.Sums.{list_all-from_AllPass}
use Rattle.std.proofs.lemmas.Bool.Decides.{nat_tests}
use Rattle.url.specs.declared.host.Host.{Host}
use Rattle.url.specs.declared.host.Host.TheVariants.{Domain, Ipv4, Ipv6}
use Rattle.url.specs.Host.{host_text, is_empty_host, IsHostOf}
use Rattle.url.specs.Parts.{Parts, kind_of, has_host, nonempty_host, host_or_empty, IsValid}
use Rattle.url.specs.Scheme.{is_special}
use Rattle.url.proofs.HostRoundTrip.{IsHostByte, host_text_plain}
use Rattle.ss_http.specs.Requests.{is_host_byte}
use Rattle.ss_words.specs.declared.urls.Server.{Server}
use Rattle.ss_words.specs.Urls.{HasHost, longest_host}

byte : (b : ℕ) → IsHostByte b → is_host_byte b ≡ true
byte b h = grind (arith, nat_tests, h.above, h.below)

is_some : (host : Host (List ℕ)) → not (is_empty_host host) ≡ true → 0 < length (host_text host)
is_some (Domain d) e = grind (arith, nat_tests, e)
is_some (Ipv4 address) e = some_dot (decimal (a 0)) (decimal (a 1)) (decimal (a 2)) (decimal (a 3))
  where
    a : ℕ → ℕ
    a k = Rattle.std.specs.Prelude.slice_index (ipv4_octets address) k

    some_dot : (p q r s : List ℕ) → 0 < length (p ++ codes "." ++ q ++ codes "." ++ r ++ codes "." ++ s)
    some_dot p q r s = omega (arith, length-append {A = ℕ})
is_some (Ipv6 address) e = omega arith

-- the host of a valid URL
pub visible : (url : Parts) (host : Host (List ℕ)) → IsValid url → nonempty_host url ≡ Some host → (0 < length (host_text host)) × (list_all is_host_byte (host_text host) ≡ true)
visible url host valid e = go (has_host url) refl e
  where
    at : url.host ≡ Some host → not (is_empty_host (host_or_empty url)) ≡ true → (0 < length (host_text host)) × (list_all is_host_byte (host_text host) ≡ true)
    at is some =
        let of : IsHostOf (kind_of url) host = subst (λ o. MatchOption o (is_special (kind_of url) ≡ false) (IsHostOf (kind_of url))) is valid.head.host in
        let plain = host_text_plain (kind_of url) host of in (
          is_some host (subst (λ o. not (is_empty_host (Rattle.std.specs.Prelude.unwrap_or o (Domain (codes "")))) ≡ true) is some),
          list_all-from_AllPass is_host_byte (host_text host) (λ k d h. byte _ (plain k d h)),
        )

    go : (b : Bool) → has_host url ≡ b → cond b url.host None ≡ Some host → (0 < length (host_text host)) × (list_all is_host_byte (host_text host) ≡ true)
    go true t is = at is t
    go false t is = cc

-- the text of the host of a valid URL, of which there is a copy
pub hosted : (url : Parts) (text : List ℕ) (server : Server) → IsValid url → Some text ≡ option_map host_text (nonempty_host url) → server.host ≡ text → length text ≤ longest_host → HasHost server
hosted url text server valid e same most = go (nonempty_host url) refl e
  where
    go : (o : Option (Host (List ℕ))) → nonempty_host url ≡ o → Some text ≡ option_map host_text o → HasHost server
    go None is t = cc
    go (Some host) is t =
        let v = visible url host valid is in
        let e : server.host ≡ host_text host = same ∙ cc in
        record {
          some = subst (λ x. 0 < length x) (sym e) v.0;
          most = subst (λ x. length x ≤ longest_host) (sym same) most;
          visible = subst (λ x. list_all is_host_byte x ≡ true) (sym e) v.1;
        }
