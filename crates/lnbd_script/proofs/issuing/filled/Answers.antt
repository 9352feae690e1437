use Rattle.lnbd_script.proofs.issuing.filled.Goals as goal

pub returns : goal.returns
returns c = c.in_ok-bytes.ensures.items_if_clones_equal (λ y h. h)
