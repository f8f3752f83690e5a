-- What a dial in memory keeps of what it was asked for.
use Rattle.std.specs.Prelude.{string_bytes}
use Rattle.ss_links.specs.Dials.{Address}
use Rattle.ss_links.specs.declared.memory_dial.Asked.{Asked}

abbrev pub address_of : Asked → Address
address_of asked = record { host = string_bytes asked.host; port = asked.port }
