use Rattle.log_lines.proofs.writing.row.Goals as goal

pub returns-in-Start-clause-ok : goal.returns-in-Start-clause-ok
returns-in-Start-clause-ok c = rw c.in-Start.is c.start.ensures.ok

pub returns-in-Death-clause-ok : goal.returns-in-Death-clause-ok
returns-in-Death-clause-ok c = rw c.in-Death.is c.death.ensures.ok

pub returns-in-Birth-clause-ok : goal.returns-in-Birth-clause-ok
returns-in-Birth-clause-ok c = rw c.in-Birth.is c.birth.ensures.ok

pub returns-in-Injected-clause-ok : goal.returns-in-Injected-clause-ok
returns-in-Injected-clause-ok c = rw c.in-Injected.is c.injected.ensures.ok

pub returns-in-Cleared-clause-ok : goal.returns-in-Cleared-clause-ok
returns-in-Cleared-clause-ok c = rw c.in-Cleared.is c.death-in-Cleared.ensures.ok

pub returns-in-Rate-clause-ok : goal.returns-in-Rate-clause-ok
returns-in-Rate-clause-ok c = rw c.in-Rate.is c.rate.ensures.ok

pub returns-in-Count-clause-ok : goal.returns-in-Count-clause-ok
returns-in-Count-clause-ok c = rw c.in-Count.is c.count.ensures.ok

pub returns-in-End-clause-ok : goal.returns-in-End-clause-ok
returns-in-End-clause-ok c = rw c.in-End.is c.end.ensures.ok
