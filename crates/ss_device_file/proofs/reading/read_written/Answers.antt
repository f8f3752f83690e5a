use Rattle.std.proofs.Common.{◌≡◌, ◌∙◌, sym, subst}
use Rattle.std.proofs.lemmas.Result.{IfErr-weaker, IfOk-weaker}
use Rattle.ss_device.specs.Device.{IsSameDevice}
use Rattle.ss_device_file.specs.Files.{IsFileOf}
use Rattle.ss_device_file.specs.declared.faults.DeviceFault.TheVariants.{Memory}
use Rattle.ss_device_file.proofs.Again.{written_read_back}
use Rattle.ss_device_file.proofs.Excluding.{not_refused, told_once}
use Rattle.ss_device_file.proofs.reading.read_written.Goals as goal

pub returns-clause-same : goal.returns-clause-same
returns-clause-same c =
    let file = subst (λ t. IsFileOf t c.args.device.now) (sym (c.as_slice.ensures.value ∙ c.in_ok-bytes.ensures.text)) (written_read_back c.args.device.now c.in_ok-bytes.ensures.formed) in
    IfOk-weaker c.read_device.result _ (λ d. IsSameDevice d c.args.device.now) (λ d f. told_once _ d c.args.device.now f file) c.read_device.ensures.read

pub returns-clause-memory : goal.returns-clause-memory
returns-clause-memory c =
    let file = subst (λ t. IsFileOf t c.args.device.now) (sym (c.as_slice.ensures.value ∙ c.in_ok-bytes.ensures.text)) (written_read_back c.args.device.now c.in_ok-bytes.ensures.formed) in
    IfErr-weaker c.read_device.result _ (λ fault. fault ≡ Memory) (λ fault r. not_refused _ c.args.device.now fault file r) c.read_device.ensures.refused
