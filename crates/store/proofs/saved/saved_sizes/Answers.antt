-- `saved::saved_sizes` meets its contract: its two tests together are the definition's, and the first that fails decides. Assumes nothing.
use mathlib.Core.Path.{◌∙◌}
use Rattle.store.proofs.Parts.{not_own, by_records, kept, nothing_kept}
use Rattle.store.proofs.saved.saved_sizes.Goals.{else-is_own-via-then-is_own+else-accepted, else-is_own-via-else-is_own}
use Rattle.store.proofs.saved.saved_sizes.Goals as goal

pub returns-then-accepted : goal.returns-then-accepted
returns-then-accepted c =
    let z = c.sizes_in-s in
    let image = c.args.store.now in
    kept image _ z.ensures
    (by_records image z.result _ z.ensures c.is_own.ensures _ _ c.records.ensures c.if-is_own.true c.accepted.ensures ∙ c.if-accepted.true)

pub returns : goal.returns
returns c =
    let z = c.sizes_in-s in
    let image = c.args.store.now in
    let none = c.default.ensures in
    nothing_kept image _
    (elim c.else-is_own.branch [
      | else-is_own-via-then-is_own+else-accepted w ↦
          by_records image z.result _ z.ensures c.is_own.ensures _ _ w.records.ensures w.if-is_own.true w.accepted.ensures ∙ w.if-accepted.false
      | else-is_own-via-else-is_own w ↦ not_own image z.result _ z.ensures c.is_own.ensures w.if-is_own.false
    ])
    none.0 none.1.0 none.1.1
