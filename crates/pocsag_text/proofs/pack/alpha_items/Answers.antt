use Rattle.pocsag_text.proofs.Prelude.{◌<◌, ◌^◌, ℕ, ◌++◌, take, get_or, sym, ap, ◌∙◌, flat_map, append-nil, flat_map_more, take_all, take_more, take_rest, flat_map-append, All-append, All-drop, high_first, low_first, item_bits, twenties}
use Rattle.pocsag_text.proofs.Payloads.{filled_alpha, whole_alpha}
use Rattle.pocsag_text.proofs.SevenItems.{front_moved}
use Rattle.pocsag_text.proofs.pack.alpha_items.Goals as goal

pub loop-rest-preserved : goal.loop-rest-preserved
loop-rest-preserved c =
    let loop = c.loop-rest in
    let items = loop.items.items in
    let seven = c.seven_items.result in
    let cut = take_rest loop.rest.now 20 in
    rw c.in_ok-extend_from_slice.ensures.items (record {
      bits =
          rw cut (front_moved (low_first 7) (item_bits items) _ _ loop.rest.now 20
          (flat_map-append (high_first 20) items seven ∙ ap (λ more. item_bits items ++ more) c.seven_items.ensures.bits) loop.invariant.bits);
      small = All-append (λ (item : ℕ). item < 2 ^ 20) items seven loop.invariant.small c.seven_items.ensures.small;
      bytes = rw cut (All-drop (λ (byte : ℕ). byte < 128) 20 loop.rest.now loop.invariant.bytes);
    })

pub loop-byte-init : goal.loop-byte-init
loop-byte-init c = sym (append-nil c.from_items-packer.result)

pub loop-byte-preserved : goal.loop-byte-preserved
loop-byte-preserved c =
    let rest = c.loop-rest.rest.now in
    let i = c.loop-byte.byte-index in
    c.in_ok-push.ensures
    ∙ ap (λ bits. bits ++ low_first 7 (get_or rest i 0)) c.loop-byte.invariant
    ∙ flat_map_more (low_first 7) c.from_items-packer.result (take i rest) (get_or rest i 0)
    ∙ ap (λ bytes. c.from_items-packer.result ++ flat_map (low_first 7) bytes) (sym (take_more rest i 0 c.loop-byte-test.true))

pub into_items-requires : goal.into_items-requires
into_items-requires c =
    let text = c.args.text.now in
    let rest = c.loop-rest.rest.now in
    let all =
    c.loop-byte.invariant
    ∙ ap (λ bytes. c.from_items-packer.result ++ flat_map (low_first 7) bytes) (take_all c.loop-byte.byte-index rest c.loop-byte-test.false)
    ∙ ap (λ bits. bits ++ flat_map (low_first 7) rest) c.from_items-packer.ensures ∙ c.loop-rest.invariant.bits in
    rw (filled_alpha text _ _ all c.in_ok-push_times.ensures) (whole_alpha text)

pub returns-clause-items : goal.returns-clause-items
returns-clause-items c =
    let text = c.args.text.now in
    let rest = c.loop-rest.rest.now in
    let all =
    c.loop-byte.invariant
    ∙ ap (λ bytes. c.from_items-packer.result ++ flat_map (low_first 7) bytes) (take_all c.loop-byte.byte-index rest c.loop-byte-test.false)
    ∙ ap (λ bits. bits ++ flat_map (low_first 7) rest) c.from_items-packer.ensures ∙ c.loop-rest.invariant.bits in
    c.into_items.ensures.items ∙ ap twenties (filled_alpha text _ _ all c.in_ok-push_times.ensures)
