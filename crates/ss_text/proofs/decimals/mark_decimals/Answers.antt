use Rattle.std.proofs.Common.{sym, subst}
use Rattle.std.specs.Str.{IsUtf8}
use Rattle.std.proofs.lemmas.Result.{IfOk-weaker}
use Rattle.ss_text.specs.declared.decimals.Change.TheVariants.{Mark}
use Rattle.ss_text.proofs.Marks.{written_utf8}
use Rattle.ss_text.proofs.decimals.mark_decimals.Goals as goal

pub returns-clause-utf8 : goal.returns-clause-utf8
returns-clause-utf8 c u =
    IfOk-weaker c.rewrite.result _ (λ m. IsUtf8 m.items) (λ m e. subst IsUtf8 (sym e) (written_utf8 Mark c.args.text.now u)) c.rewrite.ensures
