-- Texts that are no address.
use Rattle.std.proofs.Common.{◌≡◌, ℕ, List, Result, Ok, Err, sym, ◌∙◌, ap, subst}
use Rattle.std.specs.Net.Grammar.{IsSocketV4Text}
use Rattle.std.specs.Net.Text.{socket_v4_text}
use Rattle.std.specs.declared.net.socket_addr.SocketAddrV4.{SocketAddrV4}
use Rattle.std.proofs.NetLemmas.Theorems.{parse-socket_v4_text}
use Rattle.ss_words.specs.Commands.{IsAddress}

-- a text is no address where that which is read of it is written otherwise
pub otherwise_written :
    (text written : List ℕ) (read : SocketAddrV4) → IsSocketV4Text text read → written ≡ socket_v4_text read → (written ≡ text → ⊥) → IsAddress text → ⊥
otherwise_written text written read is output differs (address, valid, spelled) =
    let same : ◌≡◌ {A = Result SocketAddrV4 ℕ} (Ok read) (Ok address) =
    parse-socket_v4_text {E = ℕ} address (Ok read) valid (subst (λ t. IsSocketV4Text t read) spelled is) in
    differs (output ∙ ap (λ r. elim r [ Ok a ↦ socket_v4_text a | Err e ↦ text ]) same ∙ sym spelled)

-- nor where none is read of it
pub unread : (text : List ℕ) → ((read : SocketAddrV4) → IsSocketV4Text text read → ⊥) → IsAddress text → ⊥
unread text none (address, valid, spelled) =
    let same : ◌≡◌ {A = Result SocketAddrV4 ℕ} (Err 0) (Ok address) =
    parse-socket_v4_text {E = ℕ} address (Err 0) valid (λ read is. none read (subst (λ t. IsSocketV4Text t read) (sym spelled) is)) in cc
