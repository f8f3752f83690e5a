use Rattle.ss_merge.proofs.marks.mark.Goals as goal
