use Rattle.std.proofs.Common.{T, [], ◌∷◌, ◌++◌, sym, ap, ◌∙◌, subst, rules}
use Rattle.store.specs.Keepers.{held_rows}
use Rattle.store.specs.declared.row.KeptRow.{KeptRow}
use Rattle.store.proofs.Keeping.{more_covers, covers_more}
use Rattle.store.proofs.keeper.methods.KeeperStore.tell.Goals as goal

pub returns-then-push-clause-telling : goal.returns-then-push-clause-telling
returns-then-push-clause-telling g c =
    let e = c.if-push.ensures.taken ∙ ap (λ (x : KeptRow). held_rows c.args.self.now ++ x ∷ []) c.from.ensures in (
      search rules,
      (subst T (sym c.if-review.ensures.value), more_covers _ _ _ e, covers_more _ _ _ e, search rules, search rules),
    )
