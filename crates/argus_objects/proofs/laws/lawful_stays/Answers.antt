-- The rules ask only who is an ancestor of whom.
use Rattle.argus_objects.{specs.Object.holders, proofs.Later.{above_more, lawful_more, write_more}}
use Rattle.argus_objects.proofs.laws.lawful_stays.Goals as goal

pub returns-clause-lawful : goal.returns-clause-lawful
returns-clause-lawful c = λ tree later object keeps. lawful_more tree later keeps object

pub returns-clause-read : goal.returns-clause-read
returns-clause-read c = λ tree later object a keeps. above_more tree later keeps a (holders object.versions)

pub returns-clause-write : goal.returns-clause-write
returns-clause-write c = λ tree later object a keeps. write_more tree later keeps a object
