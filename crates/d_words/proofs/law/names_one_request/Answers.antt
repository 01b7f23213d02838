use Rattle.d_words.proofs.RequestFound.{one_request, request_or_none}
use Rattle.d_words.proofs.law.names_one_request.Goals as goal

pub returns-clause-one : goal.returns-clause-one
returns-clause-one c = one_request

pub returns-clause-decided : goal.returns-clause-decided
returns-clause-decided c = request_or_none
