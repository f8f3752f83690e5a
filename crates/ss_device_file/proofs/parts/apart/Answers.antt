use Rattle.std.proofs.Common.{◌≡◌, ◌++◌, ◌∷◌, ap, arith, append_assoc, filter_map, length, sym, ◌∙◌}
use Rattle.std.specs.Option.{option_to_list}
use Rattle.ss_device_file.specs.Files.{death_in, deaths_in, item_in, items_in, row_in, rows_in}
use Rattle.ss_device_file.proofs.Apart.{none_left}
use Rattle.ss_device_file.proofs.parts.apart.Goals as goal
use Rattle.ss_text.proofs.Basics.{filter_map-push}

pub loop-line-preserved : goal.loop-line-preserved
loop-line-preserved c =
    let done = c.loop-line.yielded in
    let e = c.in-Some.line in
    let rest = c.next.new.self.rest.items in
    let v = c.loop-line.invariant in
    let steps = c.in-Some.ensures.steps in
    let so_far : done ++ e ∷ rest ≡ c.into_iter-line-iterator.result.rest.items = ap (λ r. done ++ r) (sym steps.0) ∙ v.all in
    record {
      all = rw append_assoc so_far;
      rest_long = let l = ap length steps.0 in let m = steps.1 in let n = v.rest_long in omega (arith, l, m, n);
      rows = c.in_ok-sort_in.ensures.rows ∙ (ap (λ t. t ++ option_to_list (row_in e)) v.rows ∙ sym (filter_map-push row_in done e));
      items = c.in_ok-sort_in.ensures.items ∙ (ap (λ t. t ++ option_to_list (item_in e)) v.items ∙ sym (filter_map-push item_in done e));
      deaths = c.in_ok-sort_in.ensures.deaths ∙ (ap (λ t. t ++ option_to_list (death_in e)) v.deaths ∙ sym (filter_map-push death_in done e));
    }

pub returns-clause-rows : goal.returns-clause-rows
unfolding rows_in
returns-clause-rows c =
    let v = c.loop-line.invariant in
    let over : length c.loop-line.line-iterator.rest.items ≡ 0 = sym v.rest_long ∙ c.in-None.ensures.steps.0 in
    v.rows ∙ ap (filter_map row_in) (none_left c.loop-line.yielded c.loop-line.line-iterator.rest.items c.args.lines.items (v.all ∙ c.into_iter-line-iterator.ensures.into_iter_gives.0) over)

pub returns-clause-items : goal.returns-clause-items
unfolding items_in
returns-clause-items c =
    let v = c.loop-line.invariant in
    let over : length c.loop-line.line-iterator.rest.items ≡ 0 = sym v.rest_long ∙ c.in-None.ensures.steps.0 in
    v.items ∙ ap (filter_map item_in) (none_left c.loop-line.yielded c.loop-line.line-iterator.rest.items c.args.lines.items (v.all ∙ c.into_iter-line-iterator.ensures.into_iter_gives.0) over)

pub returns-clause-deaths : goal.returns-clause-deaths
unfolding deaths_in
returns-clause-deaths c =
    let v = c.loop-line.invariant in
    let over : length c.loop-line.line-iterator.rest.items ≡ 0 = sym v.rest_long ∙ c.in-None.ensures.steps.0 in
    v.deaths ∙ ap (filter_map death_in) (none_left c.loop-line.yielded c.loop-line.line-iterator.rest.items c.args.lines.items (v.all ∙ c.into_iter-line-iterator.ensures.into_iter_gives.0) over)
