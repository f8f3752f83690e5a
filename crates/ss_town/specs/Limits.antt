-- The limits of a server (this project). The constants of the code are proved to be these.
use Rattle.std.specs.Prelude.{ℕ}

-- the most accounts of a town
abbrev pub most_accounts : ℕ
most_accounts = 8

-- the most workers that serve a town
abbrev pub most_workers : ℕ
most_workers = 16

-- the most connections that one term takes
abbrev pub most_connections : ℕ
most_connections = 1000
