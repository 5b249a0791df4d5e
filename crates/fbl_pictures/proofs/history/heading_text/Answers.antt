use Rattle.fbl_pictures.proofs.history.heading_text.Goals as goal

pub returns : goal.returns
returns c = rw (c.receipts_word-word.ensures, c.receipts_made-made.ensures, c.receipts_undone-undone.ensures) at c.format.ensures.ok
