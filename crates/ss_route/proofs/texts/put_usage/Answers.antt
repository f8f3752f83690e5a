use Rattle.std.proofs.Common.{◌≡◌, ◌++◌, map, sym, ap, ◌∙◌, subst}
use Rattle.std.specs.Prelude.{OnOk}
use Rattle.ss_route.specs.Texts.{member_text, kilobytes_text, object_text}
use Rattle.std.proofs.lemmas.Simd.{map-map}
use Rattle.ss_route.proofs.texts.put_usage.Goals as goal

pub returns : goal.returns
returns c =
    let same : map (λ member. member_text member.entry.now.0 (kilobytes_text member.entry.now.1)) c.as_slice.result.now
    ≡ map (λ entry. member_text entry.0 (kilobytes_text entry.1)) c.args.usage.now =
    ap (map (λ member. member_text member.entry.now.0 (kilobytes_text member.entry.now.1))) c.as_slice.ensures.value
    ∙ sym (map-map (λ entry. member_text entry.0 (kilobytes_text entry.1)) (λ member. member.entry.now) c.in_ok-members.members.items)
    ∙ ap (map (λ entry. member_text entry.0 (kilobytes_text entry.1))) c.in_ok-members.ensures in
    subst (λ texts. OnOk c.put_object.result (c.put_object.new.out.items ≡ c.args.out.now.items ++ (object_text texts))) same c.put_object.ensures
