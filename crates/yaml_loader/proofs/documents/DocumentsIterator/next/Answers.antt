use Rattle.yaml_loader.proofs.Common.{Err, None, Ok, refl, Some, true}
use Rattle.yaml_loader.proofs.DocumentTexts.{gives}
use Rattle.yaml_loader.proofs.documents.DocumentsIterator.next.Goals as goal

pub returns-in-Ok-Some-clause-steps : goal.returns-in-Ok-Some-clause-steps
returns-in-Ok-Some-clause-steps g c =
    let read = c.in-Ok-Some.ensures.reads (c.self.invariant.between c.if-self.false) in
    gives g.T.Iterator.next_gives c.self.inside.parser c.read_document-read.new.parser c.note.ensures.came c.note.ensures.no_nul c.note.ensures.scans
    c.self.view_is c.if-self.false c.read_document-read.ensures.start (Ok (Some c.in-Ok-Some.document)) c.self.inside.over c.if-self.false (rw c.in-Ok-Some.field-0-is at read)

pub returns-in-Ok-None-clause-steps : goal.returns-in-Ok-None-clause-steps
returns-in-Ok-None-clause-steps g c =
    let read = c.in-Ok-None.ensures.reads (c.self.invariant.between c.if-self.false) in
    gives g.T.Iterator.next_gives c.self.inside.parser c.read_document-read.new.parser c.note.ensures.came c.note.ensures.no_nul c.note.ensures.scans
    c.self.view_is c.if-self.false c.read_document-read.ensures.start (Ok None) true refl (rw c.in-Ok-None.field-0-is at read)

pub returns-in-Err-clause-steps : goal.returns-in-Err-clause-steps
returns-in-Err-clause-steps g c =
    gives g.T.Iterator.next_gives c.self.inside.parser c.read_document-read.new.parser c.note.ensures.came c.note.ensures.no_nul c.note.ensures.scans
    c.self.view_is c.if-self.false c.read_document-read.ensures.start (Err c.in-Err.fault) true refl (c.in-Err.ensures.reads (c.self.invariant.between c.if-self.false))
