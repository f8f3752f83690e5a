use Rattle.std.proofs.Common.{◌≡◌, ◌++◌, length, filter_map}
use Rattle.ss_device_file.specs.Files.{death_in, item_in, row_in}
use Rattle.ss_device_file.proofs.parts.apart.Given as goal

abbrev pub invariant-loop-line : goal.invariant-loop-line
invariant-loop-line l = record {
  all : l.yielded ++ l.line-iterator.rest.items ≡ l.initial.line-iterator.rest.items;
  rest_long : l.line-iterator.rest.len ≡ length l.line-iterator.rest.items;
  rows : l.parts.rows.items ≡ filter_map row_in l.yielded;
  items : l.parts.items.items ≡ filter_map item_in l.yielded;
  deaths : l.parts.deaths.items ≡ filter_map death_in l.yielded;
}
