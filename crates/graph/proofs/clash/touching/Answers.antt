use Rattle.std.proofs.Common.{refl}
use Rattle.graph.proofs.Clashing.{turned_marks, touched_marks}
use Rattle.graph.proofs.clash.touching.Goals as goal

pub returns : goal.returns
returns c =
    let links = c.args.links.now in
    touched_marks links.moves c.args.uses c.args.deletes c.args.barred _ _ _
    (turned_marks (λ m. m.uses) links.users links.moves _ c.args.deletes refl links.used c.union_of.ensures)
    (turned_marks (λ m. m.deletes) links.deleters links.moves _ c.args.uses refl links.deleted c.union_of-2.ensures)
    (turned_marks (λ m. m.needs) links.needers links.moves _ c.args.barred refl links.needed c.union_of-3.ensures)
