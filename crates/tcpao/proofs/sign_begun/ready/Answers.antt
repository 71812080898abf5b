-- The header is the front of its array: the law of SignedLaws.
use Rattle.traffic.specs.Flow.{flow_of}
use Rattle.tcpao.proofs.SignedLaws.{ao-starts}
use Rattle.tcpao.proofs.sign_begun.ready.Goals as goal

pub returns : goal.returns
returns c =
    let a = c.args in
    ao-starts a.granted.position a.granted.secret a.state a.segment.now c.requires.0 c.len.ensures (flow_of c.leaving_flow.result)
    c.leaving_hidden.result c.begin-mac.result c.leaving_sum.result c.header_bytes-old.ensures.bytes c.requires.1 c.leaving_flow.ensures
    c.extension_of.ensures c.leaving_hidden.ensures c.blank_header-header.ensures c.begin-mac.ensures c.leaving_sum.ensures
