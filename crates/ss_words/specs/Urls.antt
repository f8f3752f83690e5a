-- The URL of an account, as a client is given it (this project's).
use Rattle.std.specs.Prelude.{◌≡◌, ℕ, ◌<◌, ◌≤◌, true, ◌&&◌, ◌-◌, ◌==◌, nat_eq, nat_le, List, length, drop, take}
use Rattle.std.specs.Prelude.{slice_index, Option, Some, None, is_none, unwrap_or, codes, bytes_eq, option_map}
use Rattle.std.specs.Prelude.{option_and_then, if◌then◌else◌}
use Rattle.std.specs.List.{starts_with, list_all}
use Rattle.std.specs.Result.{result_ok}
use Rattle.url.specs.Host.{host_text}
use Rattle.url.specs.Parser.{parse_url}
use Rattle.url.specs.Parts.{Parts, nonempty_host}
use Rattle.ss_http.specs.Requests.{is_host_byte}
use Rattle.ss_route.specs.Targets.{uid_of}
use Rattle.ss_words.specs.declared.urls.Server.{Server}

-- the longest host of a server, in bytes
abbrev pub longest_host : ℕ
longest_host = 1024

-- without one slash at the end
abbrev pub without_slash : List ℕ → List ℕ
without_slash text = if slice_index text (length text - 1) == 0x2f then take (length text - 1) text else text

-- what stands behind the version of the API in a path
abbrev pub behind_version : List ℕ → Option (List ℕ)
behind_version path = if starts_with nat_eq path (codes "/1.5/") then Some (drop 5 path) else None

-- the account of the path `/1.5/<uid>`, with or without a slash at its end
abbrev pub uid_in_path : List ℕ → Option ℕ
uid_in_path path = option_and_then (λ rest. uid_of (without_slash rest)) (behind_version path)

-- the scheme is `http`, and there is no query
abbrev pub server_at : Parts → List ℕ → Option Server
server_at url host =
    if bytes_eq url.scheme (codes "http") && (is_none url.query && nat_le (length host) longest_host)
    then option_map (λ uid. record { uid = uid; host = host; port = unwrap_or url.port 80 }) (uid_in_path url.path) else None

abbrev pub server_in : Parts → Option Server
server_in url = option_and_then (λ host. server_at url (host_text host)) (nonempty_host url)

-- the server that a URL names; a user, a password and a fragment aren't looked at
unfoldable pub server_of : List ℕ → Option Server
server_of text = option_and_then server_in (result_ok (parse_url None text))

-- the host of a server has 1 to 1,024 visible bytes
pub record HasHost (server : Server) : Type 0 where
  pub some : 0 < length server.host
  pub most : length server.host ≤ longest_host
  pub visible : list_all is_host_byte server.host ≡ true
