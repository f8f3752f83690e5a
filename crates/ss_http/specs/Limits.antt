-- The limits of messages and responses (this project). The constants of the code are proved to be these.
use Rattle.std.specs.Prelude.{ℕ}

-- the most fields of a head
abbrev pub most_fields : ℕ
most_fields = 64

-- the longest head, in bytes
abbrev pub most_head_bytes : ℕ
most_head_bytes = 16384

-- the longest body of a message, in bytes
abbrev pub most_body_bytes : ℕ
most_body_bytes = 2101248

-- the longest body of a response that a client reads, in bytes
abbrev pub most_heard_bytes : ℕ
most_heard_bytes = 536870912

-- the most digits of a Content-Length
abbrev pub most_length_digits : ℕ
most_length_digits = 18

-- the longest method of a request that a client sends, in bytes
abbrev pub most_method_bytes : ℕ
most_method_bytes = 100

-- the longest target of a request that a client sends, in bytes
abbrev pub most_target_bytes : ℕ
most_target_bytes = 8000

-- the longest host of a request that a client sends, in bytes
abbrev pub most_host_bytes : ℕ
most_host_bytes = 1030
