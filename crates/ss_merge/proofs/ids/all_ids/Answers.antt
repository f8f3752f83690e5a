use Rattle.std.proofs.Common.{◌≡◌, ◌||◌, ◌∙◌, ap, sym, bytes_eq}
use Rattle.std.specs.HashSet.{contains_by}
use Rattle.std.specs.List.{list_any}
use Rattle.ss_record.specs.Ids.{has}
use Rattle.ss_record.proofs.IdLists.{has-nil}
use Rattle.ss_build.proofs.Sorting.{by_id_is}
use Rattle.ss_dupe.specs.Looks.{Id, is_in}
use Rattle.ss_dupe.specs.Plains.{view}
use Rattle.ss_merge.proofs.Gathering.{nothing_gathered}
use Rattle.ss_merge.proofs.ByIds.{by_id_same}
use Rattle.ss_merge.proofs.ids.all_ids.Goals as goal

pub add_ids-requires : goal.add_ids-requires
add_ids-requires c = nothing_gathered (λ x. contains_by (bytes_eq x) c.with_hasher-seen.result) c.new-ids.result.items (λ x. ap (list_any (bytes_eq x)) c.with_hasher-seen.ensures.empty) c.new-ids.ensures.items

pub returns : goal.returns
returns c = λ all apart is.
    let s = view c.args.plains.now in
    let xs = c.add_ids-2.new.ids.items in
    let has_is : (x : Id) → has x xs ≡ has x all = λ x.
    c.in_ok-add_ids-2.ensures.all x
    ∙ ap (λ b. b || has x c.deref-2.result.now) (c.in_ok-add_ids.ensures.all x ∙ ap (λ l. has x l || has x c.deref.result.now) c.new-ids.ensures.items ∙ ap (λ b. b || has x c.deref.result.now) (has-nil x) ∙ ap (has x) c.deref.ensures.value ∙ c.requires.local x)
    ∙ ap (λ b. is_in s.local x || b) (ap (has x) c.deref-2.ensures.value ∙ c.requires.remote x)
    ∙ sym (is x) in
    by_id_is xs _ c.in_ok-sort.ensures.sorted c.in_ok-sort.ensures.stable ∙ by_id_same xs all c.in_ok-add_ids-2.ensures.gathered.apart apart has_is
