use Rattle.std.proofs.lemmas.Bool.{ltb-true}
use Rattle.sets.proofs.Members.{none_marks}
use Rattle.outlook.proofs.open_outlook.answers.OpenOutlookOutlook.barred_with.Goals as goal

pub returns : goal.returns
returns c =
    let asked = c.in_ok-check_question.ensures in
    (asked.0, ltb-true _ _ asked.1, none_marks _ (λ k b. b.1))
