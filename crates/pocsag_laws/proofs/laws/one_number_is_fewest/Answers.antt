use Rattle.pocsag_laws.proofs.Ends.{more_batches}
use Rattle.pocsag_laws.proofs.Minimum.{one_fewest, some_fewest}
use Rattle.pocsag_laws.proofs.laws.one_number_is_fewest.Goals as goal

pub returns-clause-more : goal.returns-clause-more
returns-clause-more c = λ end R a b h sent. more_batches end sent.0 a b R h sent.1

pub returns-clause-some : goal.returns-clause-some
returns-clause-some c = some_fewest

pub returns-clause-one : goal.returns-clause-one
returns-clause-one c = one_fewest
