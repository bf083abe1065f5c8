use Rattle.std.proofs.Common.{◌≡◌, ap, sym, subst, Contains, None, Some, List, Option}
use Rattle.plant_base.specs.{Refusal, State}
use Rattle.plant_trace.specs.{Node}
use Rattle.plant_questions.specs.{LotBalance}
use Rattle.plant_questions.specs.declared.question.Answer.TheVariants as A
use Rattle.plant_answers_genealogy.specs.{balances_around, answer_balance, missing}
use Rattle.plant_answers.specs.{answer}
use Rattle.plant_answers.proofs.BalancesListReached.{balances_sorted, balances_only, balances_all, each_closes}
use Rattle.plant_answers.proofs.laws.balance_law.Goals as goal

pub returns-clause-reached : goal.returns-clause-reached
unfolding answer
returns-clause-reached c k s start there =
    (balances_around s start, ap (answer_balance s start) there, balances_sorted s start, λ b. (balances_only s start b, balances_all s start b))

-- what is answered of a node that is there
answered : (s : State) (start : Node) (lots : List LotBalance) (refusal : Option Refusal) → answer_balance s start refusal ≡ A.Balance lots → balances_around s start ≡ lots
answered s start lots None e = cc
answered s start lots (Some refusal) e = absurd (cc)

pub returns-clause-closes : goal.returns-clause-closes
unfolding answer
returns-clause-closes c k s start lots sound e b h =
    each_closes s start sound b (subst (λ (xs : List LotBalance). Contains xs b) (sym (answered s start lots (missing s start) e)) h)
