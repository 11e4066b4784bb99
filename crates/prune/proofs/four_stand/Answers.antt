-- `prune::four_stand` meets its contract: four entries, each asked by its distance. Assumes nothing.
use mathlib.Core.Path.{sym, ◌∙◌}
use Rattle.prune.proofs.Laws.{stood, below-entry, below-is, four_yes, four_last}
use Rattle.prune.proofs.four_stand.Goals.{then-stands_before, else-stands_before, then-stands_before-2, else-stands_before-2}
use Rattle.prune.proofs.four_stand.Goals as goal

pub between4-apart-requires : goal.between4-apart-requires
between4-apart-requires c =
    let pre = c.requires in (
      pre.within.0,
      below-is _ c.entry_at-a.ensures (below-entry _ _ _ _ _ 0 pre.within.1 pre.kept_in_bounds.2 pre.kept_in_bounds.0 pre.kept_in_bounds.1),
      below-is _ c.entry_at-b.ensures (below-entry _ _ _ _ _ 0 pre.within.1 c.held.ensures.below pre.kept_in_bounds.0 pre.kept_in_bounds.1),
      below-is _ c.entry_at-c.ensures (below-entry _ _ _ _ _ 0 pre.within.1 c.held-2.ensures.below pre.kept_in_bounds.0 pre.kept_in_bounds.1),
      below-is _ c.entry_at-d.ensures (below-entry _ _ _ _ _ 0 pre.within.1 c.held-3.ensures.below pre.kept_in_bounds.0 pre.kept_in_bounds.1),
    )

-- the first that stands, of the first three
pub returns-then-stands_before-3 : goal.returns-then-stands_before-3
returns-then-stands_before-3 c =
    let apart = c.between4-apart.ensures in
    let n = c.requires.kept_in_bounds.0 in
    let d = c.requires.kept_in_bounds.1 in
    elim c.if-stands_before-2.branch [
      | then-stands_before-2 w ↦
          elim c.if-stands_before.branch [
            | then-stands_before v ↦
                four_yes _ _ _ _ n d _ _ _ c.requires.kept_in_bounds.2 (sym (stood _ _ _ _ _ c.stands_before.ensures apart.first c.entry_at-a.ensures) ∙ v.if-stands_before.true) c.if-stands_before-3.true
            | else-stands_before v ↦
                four_yes _ _ _ _ n d _ _ _ c.held.ensures.below (sym (stood _ _ _ _ _ v.stands_before-else-stands_before.ensures apart.second c.entry_at-b.ensures) ∙ sym v.value-is ∙ w.if-stands_before-2.true) c.if-stands_before-3.true
          ]
      | else-stands_before-2 w ↦
          four_yes _ _ _ _ n d _ _ _ c.held-2.ensures.below (sym (stood _ _ _ _ _ w.stands_before-else-stands_before-2.ensures apart.third c.entry_at-c.ensures) ∙ sym w.value-is ∙ c.if-stands_before-3.true) c.if-stands_before-3.true
    ]

-- none of them: the fourth decides
pub returns-else-stands_before-3 : goal.returns-else-stands_before-3
returns-else-stands_before-3 c =
    let apart = c.between4-apart.ensures in
    let f = c.if-stands_before-3.false in
    elim c.if-stands_before-2.branch [
      | then-stands_before-2 w ↦ let t = w.value-is in cc
      | else-stands_before-2 w ↦
          let g = w.if-stands_before-2.false in
          elim c.if-stands_before.branch [
            | then-stands_before v ↦ let t = v.value-is in cc
            | else-stands_before v ↦
                four_last _ _ _ _ c.requires.kept_in_bounds.0 c.requires.kept_in_bounds.1 _ _ _ _ _ c.requires.kept_in_bounds.2 c.held.ensures c.held-2.ensures c.held-3.ensures
                (sym (stood _ _ _ _ _ c.stands_before.ensures apart.first c.entry_at-a.ensures) ∙ v.if-stands_before.false)
                (sym (stood _ _ _ _ _ v.stands_before-else-stands_before.ensures apart.second c.entry_at-b.ensures) ∙ sym v.value-is ∙ g)
                (sym (stood _ _ _ _ _ w.stands_before-else-stands_before-2.ensures apart.third c.entry_at-c.ensures) ∙ sym w.value-is ∙ f)
                (stood _ _ _ _ _ c.stands_before-else-stands_before-3.ensures apart.fourth c.entry_at-d.ensures)
          ]
    ]
