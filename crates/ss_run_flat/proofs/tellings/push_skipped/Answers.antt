use Rattle.std.proofs.Common.{◌≡◌, ◌++◌, List, ℕ, codes, append_assoc, ap, ◌∙◌}
use Rattle.ss_device.specs.Writing.{quoted_string}
use Rattle.ss_run_flat.specs.Tellings.{skipped_line}
use Rattle.ss_run_flat.proofs.tellings.push_skipped.Goals as goal

three : (out a b c x y z : List ℕ) → a ≡ out ++ x → b ≡ a ++ y → c ≡ b ++ z → c ≡ out ++ (x ++ y ++ z)
three out a b c x y z p q r = r ∙ (ap (λ t. t ++ z) (q ∙ (ap (λ t. t ++ y) p ∙ append_assoc out x y)) ∙ append_assoc out (x ++ y) z)

pub returns : goal.returns
unfolding skipped_line
returns c =
    three c.args.out.now.items c.extend_from_slice.new.self.items c.push_json_text.new.out.items c.extend_from_slice-2.new.self.items (codes "[\"skipped\",") (quoted_string c.args.id.now) (codes "]\n")
    c.in_ok-extend_from_slice.ensures.items (c.in_ok-push_json_text.ensures.ok ∙ ap (λ t. c.extend_from_slice.new.self.items ++ quoted_string t) c.as_str.ensures.text) c.in_ok-extend_from_slice-2.ensures.items
