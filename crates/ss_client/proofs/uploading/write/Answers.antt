use Rattle.std.proofs.Common.{◌+◌, ◌<◌, length, subst}
use Rattle.ss_client.specs.Leaves.{UploadView}
use Rattle.ss_client.proofs.Posting.{writes_early}
use Rattle.ss_client.proofs.uploading.write.Goals as goal

pub returns-then-upload-as_slice-clause-writes : goal.returns-then-upload-as_slice-clause-writes
returns-then-upload-as_slice-clause-writes c =
    let i = c.upload.inside in
    writes_early c.args.run c.args.upload c.args.stamp _
    (subst (λ (u : UploadView). u.sent + u.count < length u.parts) c.upload.view_is (subst (λ parts. i.sent + i.count < length parts) c.as_slice.ensures c.if-upload-as_slice.true)) c.unread.ensures
