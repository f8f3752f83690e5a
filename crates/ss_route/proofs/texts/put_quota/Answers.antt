use Rattle.std.proofs.Common.{◌++◌, codes}
use Rattle.ss_bso.specs.Limits.{most_account_payload_bytes}
use Rattle.ss_route.specs.Texts.{kilobytes_text}
use Rattle.ss_route.proofs.Appending.{both, both_or_err}
use Rattle.ss_route.proofs.texts.put_quota.Goals as goal

pub returns : goal.returns
returns c =
    let old = c.args.out.now.items in
    let used = kilobytes_text c.args.used in
    let most = kilobytes_text most_account_payload_bytes in
    let first = both old c.put.new.out.items c.put_kilobytes.new.out.items (codes "[") used c.in_ok-put.ensures c.in_ok-put_kilobytes.ensures in
    let second = both old c.put_kilobytes.new.out.items c.put-2.new.out.items (codes "[" ++ used) (codes ",") first c.in_ok-put-2.ensures in
    let third = both old c.put-2.new.out.items c.put_kilobytes-2.new.out.items (codes "[" ++ used ++ codes ",") most second c.in_ok-put_kilobytes-2.ensures in
    both_or_err c.put-3.result old c.put_kilobytes-2.new.out.items c.put-3.new.out.items (codes "[" ++ used ++ codes "," ++ most) (codes "]") third c.put-3.ensures
