-- The host of a server, as requests name it (RFC 9112: `Host` has the port where the URL has one).
use Rattle.std.specs.Prelude.{ℕ, ◌==◌, List, ◌++◌, codes, decimal, if◌then◌else◌}
use Rattle.ss_words.specs.declared.urls.Server.{Server}

-- 80 is the port of a URL that has none
abbrev pub host_named : Server → List ℕ
host_named server = if server.port == 80 then server.host else server.host ++ codes ":" ++ decimal server.port
