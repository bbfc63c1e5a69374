use borrow.Author.Rules.{rules}
use Rattle.trial.proofs.OneReader.{taker_response, taker_gnss, taker_registration}
use Rattle.trial.proofs.straight.taker_at.Goals as goal

pub returns-then-row-lt-RESPONSES : goal.returns-then-row-lt-RESPONSES
returns-then-row-lt-RESPONSES c = search (rules, taker_response)

pub returns-then-row-eq-RESPONSES : goal.returns-then-row-eq-RESPONSES
returns-then-row-eq-RESPONSES c = search (rules, taker_gnss)

pub returns : goal.returns
returns c = search (rules, taker_registration)
