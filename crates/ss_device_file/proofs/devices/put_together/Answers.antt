use Rattle.std.proofs.Common.{eq-eqb, ne_eqb, ◌≡◌, ℕ, List, length, cond, ap, ap₂, sym, subst, ◌∙◌}
use Rattle.std.proofs.lemmas.Result.{IfOk-weaker}
use Rattle.ss_record.specs.declared.readings.Sheet.{Sheet}
use Rattle.ss_device.specs.Device.{AreById, Dead, row_ids}
use Rattle.ss_device_file.specs.Files.{kept_rows}
use Rattle.ss_device_file.specs.Joining.{synced_with}
use Rattle.ss_device_file.proofs.Joined.{kept_by_id}
use Rattle.ss_device_file.proofs.devices.put_together.Goals as goal
use Rattle.ss_device_file.proofs.devices.put_together.Goals.{then-len-count, else-len-count}

pub join-requires-clause-by_id : goal.join-requires-clause-by_id
join-requires-clause-by_id c = subst (λ (rs : List Sheet). AreById (row_ids rs)) (sym c.kept_rows-mirror.ensures) (kept_by_id c.args.version c.args.rows.items c.requires.rows)

pub returns-clause-joined : goal.returns-clause-joined
returns-clause-joined c =
    IfOk-weaker c.join.result _ _ (λ d e. e ∙ ap₂ (λ (dm : Dead) (s : ℕ). record { tree = c.args.tree; dead = dm; mirror = c.kept_rows-mirror.result.items; stamp = s }) c.in_ok-dead.ensures stamp_is
    ∙ ap (λ (m : List Sheet). record { tree = c.args.tree; dead = c.args.deaths.items; mirror = m; stamp = synced_with c.args.version c.args.rows.items c.args.stamp }) c.kept_rows-mirror.ensures) c.join.ensures.joined
  where
    kept_len : c.len.result ≡ length (kept_rows c.args.version c.args.rows.items)
    kept_len = c.len.ensures ∙ (c.kept_rows-mirror.result.ok.0 ∙ ap length c.kept_rows-mirror.ensures)

    all_len : c.len-count.result ≡ length c.args.rows.items
    all_len = c.len-count.ensures ∙ c.args.rows.ok.0

    stamp_is : c.if-len-count.stamp ≡ synced_with c.args.version c.args.rows.items c.args.stamp
    stamp_is =
        elim c.if-len-count.branch [
          | then-len-count w ↦ w.stamp-is ∙ sym (ap (λ b. cond b c.args.stamp 0) (eq-eqb _ _ (sym kept_len ∙ (w.if-len-count.true ∙ all_len))))
          | else-len-count w ↦ w.stamp-is ∙ (w.clamp-stamp.ensures ∙ sym (ap (λ b. cond b c.args.stamp 0) (ne_eqb _ _ (λ e. w.if-len-count.false (kept_len ∙ (e ∙ sym all_len))))))
        ]
