use Rattle.std.proofs.Common.{ap, bytes_eq, length, ◌≤◌, arith, option_map}
use Rattle.std.specs.HashMap.{get}
use Rattle.std.specs.Map.{lookup}
use Rattle.ss_dupe.specs.Plains.{placed_at}
use Rattle.ss_merge.specs.Links.{by_map, look_by}
use Rattle.ss_merge.proofs.Naming.{all_moved, none_moved, one_moved}
use Rattle.ss_merge.proofs.paired.rename_seats.Goals as goal

pub loop-id-init : goal.loop-id-init
loop-id-init c = none_moved (by_map (get bytes_eq c.args.names.now)) (get bytes_eq c.args.seats) (look_by (get bytes_eq c.with_hasher-named.result)) (λ x. ap (λ es. option_map placed_at (lookup (bytes_eq x) es)) c.with_hasher-named.ensures.empty)

pub loop-id-preserved : goal.loop-id-preserved
loop-id-preserved c =
    one_moved (by_map (get bytes_eq c.args.names.now)) (get bytes_eq c.args.seats) (get bytes_eq c.loop-id.rest) (get bytes_eq c.move_seat.new.rest) (look_by (get bytes_eq c.loop-id.named)) (look_by (get bytes_eq c.move_seat.new.named))
    c.args.ids.now c.loop-id.id-index c.id-item.result c.requires.names c.requires.ids c.loop-id-test.true c.id-item.is c.in_ok-move_seat.ensures.rest c.in_ok-move_seat.ensures.named c.loop-id.invariant

pub returns : goal.returns
returns c =
    let le : length c.args.ids.now ≤ c.loop-id.id-index = omega arith in
    all_moved (by_map (get bytes_eq c.args.names.now)) (get bytes_eq c.args.seats) (get bytes_eq c.loop-id.rest) (look_by (get bytes_eq c.loop-id.named)) c.args.ids.now c.loop-id.id-index c.requires.ids le c.loop-id.invariant
