mod Prices
