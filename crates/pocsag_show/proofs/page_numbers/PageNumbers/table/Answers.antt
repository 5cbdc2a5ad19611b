use Rattle.pocsag_show.proofs.Prelude.{◌≡◌, ℕ, ◌+◌, ◌<◌, ◌≤◌, List, length, get_or, set, refl, sym, ap, ◌∙◌, arith, get_or_default, length-map, length-set, count_by-le-length, nat_lt, addresses_of, Page, addresses_ahead, pages_begun, smaller_in}
use Rattle.pocsag_show.proofs.PageNumbers.{all_ahead, smaller_next, address_counted, counted_fits, equal_in, none_smaller, numbering_more, pages_below_are, all_zeros}
use Rattle.pocsag_show.proofs.page_numbers.PageNumbers.table.Goals as goal

pub loop-address-init : goal.loop-address-init
loop-address-init c =
    let table = c.in_ok-table.table.items in
    let none = all_zeros table _ (c.in_ok-table.ensures.items_if_clones_equal (λ y same. same)) in
    record {
      long = none.0;
      counting = λ a.
          let ahead = ap (λ (xs : List ℕ). equal_in xs a) (all_ahead c.new-kinds.result c.args.bytes.now c.new-kinds.ensures.kinds c.new-kinds.ensures.first) in
          omega (arith, none.1 a, ahead);
    }

pub overflow_add-index_mut : goal.overflow_add-index_mut
overflow_add-index_mut c =
    let ps = pages_begun c.args.bytes.now in
    let loop = c.loop-address in
    let address = c.in-Some.address in
    let within : address < length loop.table.items = omega (arith, loop.invariant.long, c.in-Some.ensures.small) in
    let here : c.index_mut.result.now ≡ get_or loop.table.items address 0 =
    c.index_mut.ensures.value ∙ get_or_default loop.table.items address _ 0 within in
    omega (
      arith,
      here,
      counted_fits (addresses_of ps) loop.table.items (addresses_ahead loop.kinds) (addresses_ahead c.next_address.new.self) address
          c.in-Some.ensures.read (loop.invariant.counting address),
      length-map ps (λ (p : Page). p.address),
      c.requires,
    )

pub loop-address-preserved : goal.loop-address-preserved
loop-address-preserved c =
    let loop = c.loop-address in
    let table = loop.table.items in
    let address = c.in-Some.address in
    let within : address < length table = omega (arith, loop.invariant.long, c.in-Some.ensures.small) in
    let here : c.index_mut.result.now ≡ get_or table address 0 = c.index_mut.ensures.value ∙ get_or_default table address _ 0 within in
    record {
      long = length-set table address (c.index_mut.result.now + 1) ∙ loop.invariant.long;
      counting = λ a.
          address_counted table _ address a _ (addresses_ahead loop.kinds) (addresses_ahead c.next_address.new.self) within
          (ap (λ (n : ℕ). set table address (n + 1)) here) c.in-Some.ensures.read (loop.invariant.counting a);
    }

pub loop-address-2-init : goal.loop-address-2-init
loop-address-2-init c = record {
  long = c.loop-address.invariant.long;
  done = λ a below. absurd (omega arith);
  next = sym (none_smaller (addresses_of (pages_begun c.args.bytes.now)));
  left = λ a from.
      let none = ap (λ (xs : List ℕ). equal_in xs a) c.in_default.ensures.read in
      omega (arith, c.loop-address.invariant.counting a, none);
}

pub overflow_add-smaller : goal.overflow_add-smaller
overflow_add-smaller c =
    let ps = pages_begun c.args.bytes.now in
    let xs = addresses_of ps in
    let loop = c.loop-address-2 in
    let address = loop.address in
    let within : address < length loop.table.items =
    omega (arith, c.loop-address-2-test.true, c.len-address-end.ensures, c.loop-address.invariant.long, loop.invariant.long) in
    let count = c.index-count.ensures ∙ get_or_default loop.table.items address _ 0 within in
    let few : smaller_in xs (address + 1) ≤ length xs = count_by-le-length (λ (x : ℕ). nat_lt x (address + 1)) xs in
    let n = loop.invariant in
    omega (arith, smaller_next xs address, n.next, n.left address (omega arith), few, length-map ps (λ (p : Page). p.address), c.requires, count)

pub loop-address-2-preserved : goal.loop-address-2-preserved
loop-address-2-preserved c =
    let loop = c.loop-address-2 in
    let table = loop.table.items in
    let within : loop.address < length table =
    omega (arith, c.loop-address-2-test.true, c.len-address-end.ensures, c.loop-address.invariant.long, loop.invariant.long) in
    numbering_more (addresses_of (pages_begun c.args.bytes.now)) table _ loop.address loop.smaller _
    within (length-set table loop.address loop.smaller) (c.index-count.ensures ∙ get_or_default table loop.address _ 0 within) refl loop.invariant

pub returns : goal.returns
returns c = λ a small.
    let n = c.loop-address-2.invariant in
    n.done a (omega (arith, small, n.long, c.loop-address-2-test.false)) ∙ pages_below_are (pages_begun c.args.bytes.now) a
