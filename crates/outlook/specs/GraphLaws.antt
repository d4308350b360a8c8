-- The graph outlook is lawful.
use Rattle.std.specs.Prelude.{◌≡◌, ℕ, ◌≤◌, ◌&&◌, Some, Decides, Option, nat_le, refl}
use Rattle.std.proofs.Common.{subst, arith}
use Rattle.std.proofs.Math.Logic.{∥∥₁_elim}
use Rattle.std.proofs.Math.Bool.{Bool-set}
use Rattle.std.proofs.Math.Decide.{dec_le}
use Rattle.std.proofs.lemmas.Bool.{le-leb, lt-leb}
use Rattle.std.proofs.lemmas.Bool.Decides.{Decides-like, same_from_decides}
use Rattle.problem.specs.Firm.{Task}
use Rattle.problem.specs.Problems.{Fits}
use Rattle.graph.specs.Levels.{level, Bars, Closing}
use Rattle.graph.specs.Graphs.{GraphOf, bars_in}
use Rattle.graph.specs.declared.graph.Graph.{Graph}
use Rattle.problem.proofs.Fitting.{problem_fits}
use Rattle.graph.proofs.Neighbours.{barred_unreached, closed_unreached}
use Rattle.graph.proofs.Answering.{t_true, bars_rule, bars_turned}
use Rattle.outlook.specs.Outlooks.{Lawful}
use Rattle.outlook.specs.GraphViews.{graph_task, graph_view, OfGraph}
use Rattle.outlook.specs.declared.graph_outlook.GraphOutlook.{GraphOutlook}

no_two : IsProp ⊥
no_two x y = absurd x

-- what a table of the task's graph bars, at levels up to 32
module _ (t : Task) (fits : Fits t) (g : Graph) (of : GraphOf t g) where
  pub bars_of : (n a b : ℕ) → n ≤ 32 → Decides (nat_le n 32 && bars_in g n a b) (Bars (level t n) a b)
  bars_of n a b le = rw (le-leb n 32 le) (bars_rule t g of fits n a b le)

  bars_both : (n a b : ℕ) → (nat_le n 32 && bars_in g n a b) ≡ (nat_le n 32 && bars_in g n b a)
  bars_both n a b = elim (dec_le n 32) [
    | yes le ↦ same_from_decides _ _ (bars_of n a b le) (Decides-like _ (bars_turned t n b a) (bars_turned t n a b) (bars_of n b a le))
    | no gt ↦ rw (lt-leb n 32 (omega arith)) refl
  ]

pub graph_fits : (o : GraphOutlook) → Fits (graph_task o)
graph_fits o = problem_fits o.problem

-- the closing level of the view is that of the rules
closes_at : (o : GraphOutlook) (c : ℕ) → o.closing ≡ Some c → (A : Type 0) → IsProp A → (Closing (level (graph_task o)) (Some c) → A) → A
closes_at o c e A prop f =
    ∥∥₁_elim o.closes prop (λ h. f (subst (λ (r : Option ℕ). Closing (level (graph_task o)) r) e h))

pub graph_lawful : (o : GraphOutlook) → Lawful (graph_task o) (graph_view o)
graph_lawful o =
    let t : Task = graph_task o in
    let fits = graph_fits o in
    record {
      both = λ n a b. ∥∥₁_elim o.built (Bool-set _ _) (λ of. bars_both t fits o.graph of n a b);
      level = λ n k s le lek run b. ∥∥₁_elim o.built no_two (λ of.
          barred_unreached t fits n k s lek run b.0 b.1 b.2 b.3 ((bars_of t fits o.graph of n b.0 b.1 le).0 (t_true _ b.4)));
      closing = λ c k s e run b. closes_at o c e ⊥ no_two (λ h. ∥∥₁_elim o.built no_two (λ of.
          closed_unreached t fits c h.same k s run b.0 b.1 b.2 b.3
          ((bars_of t fits o.graph of c b.0 b.1 (omega (arith, h.below))).0 (t_true _ b.4))));
      among = λ c e. elim (dec_le c 32) [
        | yes le ↦ le
        | no gt ↦ absurd (closes_at o c e ⊥ no_two (λ h. omega (arith, h.below)))
      ];
    }

-- a table of the task's graph with its closing level gives a view of the graph
pub of_graph : (t : Task) → Fits t → (g : Graph) → GraphOf t g → (r : Option ℕ) → Closing (level t) r
    → OfGraph t (record { bars = λ n a b. nat_le n 32 && bars_in g n a b; closing = r })
of_graph t fits g of r c = record { bars = bars_of t fits g of; closing = c }
