use Rattle.std.proofs.Common.{◌≡◌, ◌++◌, cond, codes, string_bytes, sym, ap, ◌∙◌, append_assoc}
use Rattle.std.proofs.lemmas.Result.{on_ok_weaker}
use Rattle.ss_route.specs.Sending.{newer_text, offset_text}
use Rattle.ss_route.proofs.requests.push_listed.Goals as goal

pub returns : goal.returns
returns c =
    let old = string_bytes c.args.target.now in
    let path = codes "/storage/bookmarks?full=1&sort=oldest&limit=1000" in
    let newer = newer_text c.args.query.now.newer in
    let place = offset_text c.args.query.now.offset c.args.cond in
    let all : ((old ++ path) ++ newer) ++ place ≡ old ++ (path ++ newer ++ place) = simp append_assoc in
    on_ok_weaker c.push_page.result
    (λ e. e ∙ ap (λ t. t ++ place) (c.in_ok-push_newer.ensures ∙ ap (λ t. t ++ newer) c.in_ok-push_str.ensures.bytes) ∙ all
    ∙ ap (λ b. old ++ cond b (path ++ newer ++ place) (codes "/storage/bookmarks")) (sym c.if-not-query.false)) c.push_page.ensures
