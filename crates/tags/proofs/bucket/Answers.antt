-- `tags::bucket` meets its contract.
use Rattle.tags.proofs.ChainLaws.{bucket_none, bucket-some}
use Rattle.tags.proofs.bucket.Goals as goal

pub returns-then-n-eq0-clause-is : goal.returns-then-n-eq0-clause-is
returns-then-n-eq0-clause-is c = bucket_none _ c.if-n-eq0.true

pub returns-clause-is : goal.returns-clause-is
returns-clause-is c = rw (c.from-first.ensures, c.from-before_last.ensures, c.from-last.ensures) (bucket-some _ c.saturating_sub.ensures)
