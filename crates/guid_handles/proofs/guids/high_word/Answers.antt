use Rattle.guid_handles.proofs.guids.high_word.Goals as goal

pub returns-clause-bytes : goal.returns-clause-bytes
returns-clause-bytes c = c.fits-b
